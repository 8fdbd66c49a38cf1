pub mod ItemLemmas
pub mod JsonLemmas
pub mod ObjectLemmas
pub mod RecordLemmas
pub mod SameRecords
