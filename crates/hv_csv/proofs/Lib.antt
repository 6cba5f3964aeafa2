mod BaseRows
mod Fields
mod Filling
mod HeaderPlaces
mod RecordsLeft
