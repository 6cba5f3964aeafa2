mod AutoFacts
mod FrequentFacts
mod PlanFacts
mod TrellisLemmas
