-- lists of different elements, and their lengths
pub use Rattle.path_search.proofs.CountLemmas.{Contains-cons, Contains-later, Contains-cons_cases, length-within, All-from_contains}
