pub mod TextLemmas
pub mod Spurs
pub mod IndexLaws
mod IndexSlots
mod IndexTables
mod HashesAhead
mod KeySlots
pub mod Regions
pub mod Doubled
pub mod Spares
pub mod RegionOrder
pub mod RegionSpares
pub mod Gathered
pub mod Wasted
pub mod WastedSince
pub mod EntryTexts
pub mod Walks
mod Ends
mod ReadNumbers
mod PlacesLent
pub mod TextsLent
pub mod RowCalls
mod EmptyStructs
mod Crossing
mod JsonTexts
mod JsonValues
mod JsonMembers
mod JsonPositions
mod JsonOrder
mod JsonWritten
mod JsonTextsSet
pub mod JsonLaws
pub mod JsonObjectLaws
pub mod LayoutTexts
