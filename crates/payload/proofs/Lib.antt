pub mod FitsLoadLemmas
mod IndexLemmas
mod OptionLemmas
