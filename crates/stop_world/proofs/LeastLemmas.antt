-- of finitely many paths of a kind that can be told, one has the least key; and stop-admissible paths can be told
use Rattle.std.proofs.Common.{◌≡◌, ◌⊎◌, inl, inr, ⊎_elim, ℕ, zero, suc, ◌+◌, ◌<◌, ◌≤◌, Bool, true, false, List, [], ◌∷◌, length, Option, Some, None, refl, sym, ap, subst, arith}
use Rattle.std.proofs.lemmas.Bool.{cases_Bool, cases_eq}
use Rattle.std.proofs.lemmas.Bool.Decides.{Decides-eqb, not_from_Decides}
use Rattle.std.proofs.lemmas.List.Elements.{All-from_recursion, recursion_from_All}
use Rattle.std.proofs.lemmas.Option.{slice_get_within}
use Rattle.std.specs.Bool.{Decides}
use Rattle.std.specs.List.{AllByRecursion}
use Rattle.std.specs.Prelude.{All, slice_get, slice_index_or}
use Rattle.hold_limits.specs.Problem.{Problem}
use Rattle.hold_limits.specs.Enumeration.{is_admissible}
use Rattle.hold_limits.specs.Placement.{IsAdmissible, IsAtMost, Key}
use Rattle.hold_limits.proofs.EnumerationLemmas.{is_admissible-Decides, nat_le-Decides}
use Rattle.hold_limits.proofs.KeyOrder.{IsAtMost-refl, IsAtMost-total, IsAtMost-trans}
use Rattle.stop_tasks.specs.Stops.{Stops}
use Rattle.stop_tasks.specs.StopPaths.{IsFirstSector, IsReachable, IsStopAdmissible, KeepsWayOut, OnSectors, last_sectors, part_of}
use Rattle.stop_tasks.proofs.AdmissibleLemmas.{stop-admissible-parts}

-- What can be told ------------------------------------------------------------------------------

-- it is so, or it is not
abbrev pub Told : Type 0 → Type 0
Told P = P ⊎ (P → ⊥)

told-from : (b : Bool) (P : Type 0) → Decides b P → Told P
told-from b P decides = ⊎_elim
    (λ (is : b ≡ true). inl (decides.0 is))
    (λ (not : b ≡ false). inr (not_from_Decides b decides not))
    (cases_Bool b)

told-both : (P Q : Type 0) → Told P → Told Q → Told (P × Q)
told-both P Q first second = ⊎_elim
    (λ (p : P). ⊎_elim (λ (q : Q). inl (p, q)) (λ (not : Q → ⊥). inr (λ both. not both.1)) second)
    (λ (not : P → ⊥). inr (λ both. not both.0))
    first

told-if : (P Q : Type 0) → Told P → Told Q → Told (P → Q)
told-if P Q first second = ⊎_elim
    (λ (p : P). ⊎_elim (λ (q : Q). inl (λ _. q)) (λ (not : Q → ⊥). inr (λ all. not (all p))) second)
    (λ (not : P → ⊥). inl (λ p. absurd (not p)))
    first

told-below : (P : ℕ → Type 0) → ((k : ℕ) → Told (P k)) → (n : ℕ) → Told ((k : ℕ) → k < n → P k)
told-below P each zero = inl (λ k below. absurd (omega (arith, below)))
told-below P each (suc n) = ⊎_elim
    (λ (all : (k : ℕ) → k < n → P k). ⊎_elim
    (λ (here : P n). inl (λ k below. ⊎_elim
    (λ (is : n ≡ k). subst P is here)
    (λ (other : n ≡ k → ⊥). all k (omega (arith, other, below)))
    (cases_eq n k)))
    (λ (not : P n → ⊥). inr (λ every. not (every n (omega arith))))
    (each n))
    (λ (not : ((k : ℕ) → k < n → P k) → ⊥). inr (λ every. not (λ k below. every k (omega (arith, below)))))
    (told-below P each n)

told-all : {X : Type 0} (P : X → Type 0) → ((x : X) → Told (P x)) → (xs : List X) → Told (All P xs)
told-all {X} P each xs = ⊎_elim
    (λ (all : AllByRecursion P xs). inl (All-from_recursion P xs all))
    (λ (not : AllByRecursion P xs → ⊥). inr (λ all. not (recursion_from_All P xs all)))
    (each-of xs)
  where
    each-of : (xs : List X) → Told (AllByRecursion P xs)
    each-of [] = inl tt
    each-of (x ∷ xs) = told-both (P x) (AllByRecursion P xs) (each x) (each-of xs)

told-some : {X : Type 0} (Q : X → Type 0) → ((x : X) → Told (Q x)) → (o : Option X) → Told ((x : X) → o ≡ Some x → Q x)
told-some Q each None = inl (λ x is. absurd (cc))
told-some {X} Q each (Some y) = ⊎_elim
    (λ (here : Q y). inl (λ x is. subst Q (same x is) here))
    (λ (not : Q y → ⊥). inr (λ every. not (every y refl)))
    (each y)
  where
    same : (x : X) → Some y ≡ Some x → y ≡ x
    same x is = cc

told-number : (o : Option ℕ) (x : ℕ) → Told (o ≡ Some x)
told-number None x = inr (λ is. cc)
told-number (Some y) x = ⊎_elim
    (λ (is : y ≡ x). inl (ap Some is))
    (λ (other : y ≡ x → ⊥). inr (λ is. other (same is)))
    (cases_eq y x)
  where
    same : Some y ≡ Some x → y ≡ x
    same is = cc

-- Stop-admissible paths -------------------------------------------------------------------------

told-way_out : (last prefix : List ℕ) (pair : ℕ × ℕ) → Told (KeepsWayOut last prefix pair)
told-way_out last prefix pair = ⊎_elim
    (λ (all : (i : ℕ) → i < length prefix → (j : ℕ) → j < length prefix → Keeps i j).
    inl (λ i j one other. all i (slice_get_within prefix i pair.0 one) j (slice_get_within prefix j pair.1 other) one other))
    (λ (not : ((i : ℕ) → i < length prefix → (j : ℕ) → j < length prefix → Keeps i j) → ⊥). inr (λ keeps. not (λ i _ j _. keeps i j)))
    (told-below (λ i. (j : ℕ) → j < length prefix → Keeps i j)
    (λ i. told-below (Keeps i) (λ j. told-if _ _ (told-number (slice_get prefix i) pair.0) (told-if _ _ (told-number (slice_get prefix j) pair.1)
    (told-from _ _ (nat_le-Decides (slice_index_or last i 0) (slice_index_or last j 0))))) (length prefix))
    (length prefix))
  where
    Keeps : ℕ → ℕ → Type 0
    Keeps i j = slice_get prefix i ≡ Some pair.0 → slice_get prefix j ≡ Some pair.1 → slice_index_or last i 0 ≤ slice_index_or last j 0

told-sectors : (sectors : List Problem) (last path : List ℕ) → Told (OnSectors IsAdmissible sectors last path)
told-sectors sectors last path = ⊎_elim
    (λ (all : (place : ℕ) → place < length sectors → Here place). inl (λ place sector is. all place (slice_get_within sectors place sector is) sector is))
    (λ (not : ((place : ℕ) → place < length sectors → Here place) → ⊥). inr (λ every. not (λ place _. every place)))
    (told-below Here (λ place. told-some (λ sector. IsAdmissible sector (part_of last (place + 1) path))
    (λ sector. told-from (is_admissible sector (part_of last (place + 1) path)) _ (is_admissible-Decides sector (part_of last (place + 1) path)))
    (slice_get sectors place)) (length sectors))
  where
    Here : ℕ → Type 0
    Here place = (sector : Problem) → slice_get sectors place ≡ Some sector → IsAdmissible sector (part_of last (place + 1) path)

pub told-admissible : (t : Stops) (first : Problem) (path : List ℕ) → IsFirstSector t first → Told (IsStopAdmissible t path)
told-admissible t first path is_first = ⊎_elim
    (λ (all : Parts). inl (record { first = first; is_first = is_first; complete = all.0; reachable = all.1.0; sectors = all.1.1 }))
    (λ (not : Parts → ⊥). inr (λ admissible. let parts = stop-admissible-parts t first path is_first admissible in not (parts.0, (parts.1, parts.2))))
    (told-both _ _ (told-from _ _ (Decides-eqb (length path) (length first.items)))
    (told-both _ _ (told-all (KeepsWayOut last path) (told-way_out last path) t.behind) (told-sectors t.sectors last path)))
  where
    last : List ℕ
    last = last_sectors t first

    Parts : Type 0
    Parts = (length path ≡ length first.items) × (IsReachable last t.behind path × OnSectors IsAdmissible t.sectors last path)

-- The least -------------------------------------------------------------------------------------

-- a list of the kind, and none of the kind has a smaller key
pub record IsLeast (P : List ℕ → Type 0) (f : List ℕ → Key) (best : List ℕ) : Type 0 where
  pub of_kind : P best
  pub least : (other : List ℕ) → P other → IsAtMost (f best) (f other)

-- there is none of the kind, or a least one
abbrev pub HasLeast : (List ℕ → Type 0) → (List ℕ → Key) → Type 0
HasLeast P f = ((path : List ℕ) → P path → ⊥) ⊎ ((best : List ℕ) × IsLeast P f best)

-- the lists of a kind whose first number is below this one
Headed : (List ℕ → Type 0) → ℕ → List ℕ → Type 0
Headed P m [] = ⊥
Headed P m (q ∷ path) = (q < m) × P (q ∷ path)

-- one of two kinds has a least one where each has, if all of the third are of one of them
either-least : (P Q R : List ℕ → Type 0) (f : List ℕ → Key) → ((path : List ℕ) → P path → R path) → ((path : List ℕ) → Q path → R path) → ((path : List ℕ) → R path → P path ⊎ Q path)
    → HasLeast P f → HasLeast Q f → HasLeast R f
either-least P Q R f from_p from_q either first second = ⊎_elim
    (λ (no_p : (path : List ℕ) → P path → ⊥). ⊎_elim
    (λ (no_q : (path : List ℕ) → Q path → ⊥). inl (λ path is. ⊎_elim (λ (p : P path). no_p path p) (λ (q : Q path). no_q path q) (either path is)))
    (λ (q : (best : List ℕ) × IsLeast Q f best). inr (
      q.0,
      record {
        of_kind = from_q q.0 q.1.of_kind;
        least = λ other is. ⊎_elim (λ (p : P other). absurd (no_p other p)) (λ (also : Q other). q.1.least other also) (either other is);
      },
    ))
    second)
    (λ (p : (best : List ℕ) × IsLeast P f best). ⊎_elim
    (λ (no_q : (path : List ℕ) → Q path → ⊥). inr (
      p.0,
      record {
        of_kind = from_p p.0 p.1.of_kind;
        least = λ other is. ⊎_elim (λ (also : P other). p.1.least other also) (λ (q : Q other). absurd (no_q other q)) (either other is);
      },
    ))
    (λ (q : (best : List ℕ) × IsLeast Q f best). ⊎_elim
    (λ (first_least : IsAtMost (f p.0) (f q.0)). inr (
      p.0,
      record {
        of_kind = from_p p.0 p.1.of_kind;
        least = λ other is. ⊎_elim (λ (also : P other). p.1.least other also) (λ (of_q : Q other). IsAtMost-trans (f p.0) (f q.0) (f other) first_least (q.1.least other of_q)) (either other is);
      },
    ))
    (λ (second_least : IsAtMost (f q.0) (f p.0)). inr (
      q.0,
      record {
        of_kind = from_q q.0 q.1.of_kind;
        least = λ other is. ⊎_elim (λ (of_p : P other). IsAtMost-trans (f q.0) (f p.0) (f other) second_least (p.1.least other of_p)) (λ (also : Q other). q.1.least other also) (either other is);
      },
    ))
    (IsAtMost-total (f p.0) (f q.0)))
    second)
    first

-- a least one of a kind is a least one of another with the same lists
same-least : (P Q : List ℕ → Type 0) (f : List ℕ → Key) → ((path : List ℕ) → P path → Q path) → ((path : List ℕ) → Q path → P path) → HasLeast P f → HasLeast Q f
same-least P Q f there back found = ⊎_elim
    (λ (none : (path : List ℕ) → P path → ⊥). inl (λ path is. none path (back path is)))
    (λ (best : (best : List ℕ) × IsLeast P f best). inr (best.0, record { of_kind = there best.0 best.1.of_kind; least = λ other is. best.1.least other (back other is) }))
    found

-- the lists of a kind that begin with this number
Begun : (List ℕ → Type 0) → ℕ → List ℕ → Type 0
Begun P m [] = ⊥
Begun P m (q ∷ path) = (m ≡ q) × P (q ∷ path)

begun-least : (P : List ℕ → Type 0) (f : List ℕ → Key) (m : ℕ) → HasLeast (λ path. P (m ∷ path)) (λ path. f (m ∷ path)) → HasLeast (Begun P m) f
unfolding Begun
begun-least P f m found = ⊎_elim
    (λ (none : (path : List ℕ) → P (m ∷ path) → ⊥). inl (nowhere none))
    (λ (best : (best : List ℕ) × IsLeast (λ path. P (m ∷ path)) (λ path. f (m ∷ path)) best).
    inr (m ∷ best.0, record { of_kind = (refl, best.1.of_kind); least = below best.0 best.1.least }))
    found
  where
    nowhere : ((path : List ℕ) → P (m ∷ path) → ⊥) → (path : List ℕ) → Begun P m path → ⊥
    nowhere none [] is = is
    nowhere none (q ∷ path) is = none path (subst (λ n. P (n ∷ path)) (sym is.0) is.1)

    below : (best : List ℕ) → ((other : List ℕ) → P (m ∷ other) → IsAtMost (f (m ∷ best)) (f (m ∷ other))) → (other : List ℕ) → Begun P m other → IsAtMost (f (m ∷ best)) (f other)
    below best least [] is = absurd is
    below best least (q ∷ path) is = subst (λ n. IsAtMost (f (m ∷ best)) (f (n ∷ path))) is.0 (least path (subst (λ n. P (n ∷ path)) (sym is.0) is.1))

headed-least : (P : List ℕ → Type 0) (f : List ℕ → Key) → ((m : ℕ) → HasLeast (λ path. P (m ∷ path)) (λ path. f (m ∷ path))) → (m : ℕ) → HasLeast (Headed P m) f
unfolding Headed Begun
headed-least P f each zero = inl nowhere
  where
    nowhere : (path : List ℕ) → Headed P zero path → ⊥
    nowhere [] is = is
    nowhere (q ∷ path) is = omega (arith, is.0)
headed-least P f each (suc m) = either-least (Headed P m) (Begun P m) (Headed P (suc m)) f from_lower from_last either (headed-least P f each m) (begun-least P f m (each m))
  where
    from_lower : (path : List ℕ) → Headed P m path → Headed P (suc m) path
    from_lower [] is = is
    from_lower (q ∷ path) is = (omega (arith, is.0), is.1)

    from_last : (path : List ℕ) → Begun P m path → Headed P (suc m) path
    from_last [] is = is
    from_last (q ∷ path) is = (omega (arith, is.0), is.1)

    either : (path : List ℕ) → Headed P (suc m) path → Headed P m path ⊎ Begun P m path
    either [] is = absurd is
    either (q ∷ path) is = ⊎_elim
        (λ (last : m ≡ q). inr (last, is.1))
        (λ (other : m ≡ q → ⊥). inl (omega (arith, is.0, other), is.1))
        (cases_eq m q)

-- of the lists of one length with numbers below a limit that are of a kind that can be told, one is the least
pub least-exists : (n m : ℕ) (P : List ℕ → Type 0) (f : List ℕ → Key) → ((path : List ℕ) → Told (P path)) → ((path : List ℕ) → P path → (length path ≡ n) × AllByRecursion (λ q. q < m) path) → HasLeast P f
unfolding Headed
least-exists zero m P f told within = ⊎_elim
    (λ (here : P []). inr ([], record { of_kind = here; least = only }))
    (λ (not : P [] → ⊥). inl (nowhere not))
    (told [])
  where
    only : (other : List ℕ) → P other → IsAtMost (f []) (f other)
    only [] is = IsAtMost-refl (f [])
    only (q ∷ path) is = absurd (omega (arith, (within (q ∷ path) is).0))

    nowhere : (P [] → ⊥) → (path : List ℕ) → P path → ⊥
    nowhere not [] is = not is
    nowhere not (q ∷ path) is = omega (arith, (within (q ∷ path) is).0)
least-exists (suc n) m P f told within =
    let found = headed-least P f
    (λ k. least-exists n m (λ path. P (k ∷ path)) (λ path. f (k ∷ path)) (λ path. told (k ∷ path))
    (λ path is. (omega (arith, (within (k ∷ path) is).0), (within (k ∷ path) is).1.1)))
    m in
    same-least (Headed P m) P f of_headed headed found
  where
    of_headed : (path : List ℕ) → Headed P m path → P path
    of_headed [] is = absurd is
    of_headed (q ∷ path) is = is.1

    headed : (path : List ℕ) → P path → Headed P m path
    headed [] is = absurd (omega (arith, (within [] is).0))
    headed (q ∷ path) is = ((within (q ∷ path) is).1.0, is)
