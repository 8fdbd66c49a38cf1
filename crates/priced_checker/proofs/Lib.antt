pub mod GoodLemmas
mod CutLemmas
mod ReasonLemmas
