-- lists that grow by one piece after another
use Rattle.std.proofs.Common.{◌≡◌, List, [], ◌++◌, ap, ◌∙◌, append_assoc}

module _ {X : Type 0} where
  pub regroup : (old a b one two : List X) → one ≡ old ++ a → two ≡ one ++ b → two ≡ old ++ (a ++ b)
  regroup old a b one two first second = second ∙ ap (λ xs. xs ++ b) first ∙ append_assoc old a b

  pub from_nothing : (none a two : List X) → none ≡ [] → two ≡ none ++ a → two ≡ a
  from_nothing none a two empty grew = grew ∙ ap (λ xs. xs ++ a) empty

  pub five_pieces : (a b c d e n0 n1 n2 n3 n4 n5 : List X) → n0 ≡ [] → n1 ≡ n0 ++ a → n2 ≡ n1 ++ b → n3 ≡ n2 ++ c → n4 ≡ n3 ++ d → n5 ≡ n4 ++ e
      → n5 ≡ a ++ (b ++ (c ++ (d ++ e)))
  five_pieces a b c d e n0 n1 n2 n3 n4 n5 e0 e1 e2 e3 e4 e5 =
      let de = regroup n3 d e n4 n5 e4 e5 in
      let ce = regroup n2 c (d ++ e) n3 n5 e3 de in
      let be = regroup n1 b (c ++ (d ++ e)) n2 n5 e2 ce in
      let ae = regroup n0 a (b ++ (c ++ (d ++ e))) n1 n5 e1 be in
      from_nothing n0 (a ++ (b ++ (c ++ (d ++ e)))) n5 e0 ae
