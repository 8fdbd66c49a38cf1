-- a text has one list of records
use Rattle.std.proofs.Common.{◌≡◌, ◌∙◌, sym, ap, ap₂, subst, refl, List, [], ◌∷◌, None, ℕ}
use Rattle.std.proofs.lemmas.Option.{same_Some}
use Rattle.std.proofs.lemmas.Bool.{false≢true}
use Rattle.std.specs.Option.{is_some}
use Rattle.csv.specs.Machine.{Read, next_record}
use Rattle.csv.specs.Reading.{Reached, default_config, strip_bom}
use Rattle.csv.specs.declared.parser.Config.{Config}
use Rattle.csv.specs.declared.parser.State.{State}
use Rattle.csv.specs.declared.parser.State.TheVariants as st
use Rattle.desk_bodies.specs.Containers.{Records}

same_reached : (cfg : Config) (s : State) (xs : List ℕ) (a b : List (List (List ℕ))) (sa sb : State) (ya yb : List ℕ)
    → Reached cfg s xs a sa ya → next_record cfg sa [] [] ya ≡ None → Reached cfg s xs b sb yb → next_record cfg sb [] [] yb ≡ None → a ≡ b
unfolding Reached
same_reached cfg s xs [] [] sa sb ya yb ra na rb nb = refl
same_reached cfg s xs [] (r ∷ b) sa sb ya yb ra na rb nb =
    let e : next_record cfg s [] [] xs ≡ None = rw (ra.0, ra.1) na in
    absurd (false≢true (ap is_some (sym e ∙ rb.1)))
same_reached cfg s xs (r ∷ a) [] sa sb ya yb ra na rb nb =
    let e : next_record cfg s [] [] xs ≡ None = rw (rb.0, rb.1) nb in
    absurd (false≢true (ap is_some (sym e ∙ ra.1)))
same_reached cfg s xs (r ∷ a) (t ∷ b) sa sb ya yb ra na rb nb =
    let same : ra.0 ≡ rb.0 = same_Some _ _ (sym ra.1 ∙ rb.1) in
    let heads : r ≡ t = ra.2 ∙ ap (λ (p : Read). p.0) same ∙ sym rb.2 in
    let P : Read → Type 0 = λ p. Reached cfg p.1 p.2 a sa ya in
    let tails : a ≡ b = same_reached cfg rb.0.1 rb.0.2 a b sa sb ya yb (subst P same ra.3) na rb.3 nb in
    ap₂ (λ x y. x ∷ y) heads tails

pub same_records : (text : List ℕ) (a b : List (List (List ℕ))) → Records text a → Records text b → a ≡ b
same_records text a b ra rb = same_reached default_config st.StartRecord (strip_bom text) a b ra.0 rb.0 ra.1 rb.1 ra.2 ra.3 rb.2 rb.3
