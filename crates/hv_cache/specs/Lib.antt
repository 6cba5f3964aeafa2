pub mod Recent
pub mod Results
pub mod ResultsLends
