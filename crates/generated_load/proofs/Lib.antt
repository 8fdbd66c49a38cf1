mod LawfulLemmas
