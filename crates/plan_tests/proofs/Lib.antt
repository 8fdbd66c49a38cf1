pub mod WideningLemmas
