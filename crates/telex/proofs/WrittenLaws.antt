-- A text that is written line by line is a message, and its lines are those. For crates that write messages.
use Rattle.std.proofs.Common.{◌≡◌, ℕ, ◌+◌, ◌-◌, ◌<◌, ◌≤◌, Bool, false, cond, List, [], ◌∷◌, ◌++◌, length, get_or, Some, None, refl, sym, ap, subst, ◌∙◌, arith, append_assoc, length-append}
use Rattle.std.specs.List.{position, position_or_len, All, flat_map}
use Rattle.std.specs.Option.{option_map}
use Rattle.std.proofs.lemmas.Bool.{le-ltb}
use Rattle.std.proofs.lemmas.Bool.Decides.{nat_tests}
use Rattle.std.proofs.lemmas.List.{append-nil, get_or_at, get_or-append-add}
use Rattle.std.proofs.lemmas.List.Elements.{All-nil, All-head, All-tail, All-append, All-push, All-weaker}
use Rattle.std.proofs.lemmas.List.Splits.{slice_split_at}
use Rattle.std.proofs.lemmas.List.Sums.{position_or_len_is}
use Rattle.std.proofs.lemmas.Option.{slice_get-get_or, slice_get_within, get_or_from_slice_get}
use Rattle.telex.specs.Text.{line_feed, longest_line, is_foreign, is_line_feed, is_too_long, pieces, IsEnded, IsTelex}
use Rattle.telex.specs.Lines.{but_last, placed_from, lines_of, IsPrintable}
use Rattle.telex.proofs.Cuts.{Fails}
use Rattle.telex.proofs.LineLaws.{but_last-push}

-- a line with its line feed
abbrev pub ended : List ℕ → List ℕ
ended line = line ++ line_feed ∷ []

pieces-written : (lines : List (List ℕ)) → All (All (Fails is_line_feed)) lines → pieces (flat_map ended lines) ≡ lines ++ [] ∷ []
pieces-written [] clean = refl
pieces-written (line ∷ more) clean =
    ap pieces (append_assoc line (line_feed ∷ []) (flat_map ended more))
    ∙ slice_split_at is_line_feed line line_feed (flat_map ended more) (All-head (All (Fails is_line_feed)) line more clean) refl
    ∙ ap (λ ps. line ∷ ps) (pieces-written more (All-tail (All (Fails is_line_feed)) line more clean))

pub lines_of-written : (lines : List (List ℕ)) → All (All (Fails is_line_feed)) lines → lines_of (flat_map ended lines) ≡ placed_from 0 lines
lines_of-written lines clean = ap (λ ps. placed_from 0 (but_last ps)) (pieces-written lines clean) ∙ ap (placed_from 0) (but_last-push lines [])

position-none : {X : Type 0} (p : X → Bool) (xs : List X) → All (Fails p) xs → position p xs ≡ None
position-none p [] clean = refl
position-none p (x ∷ xs) clean =
    let all : position_or_len p (x ∷ xs) ≡ length (x ∷ xs) =
    position_or_len_is p (x ∷ xs) (length (x ∷ xs)) x (omega arith) (λ k l. clean k x l) (λ l. absurd (omega arith)) in
    ap (λ b. cond b (Some (position_or_len p (x ∷ xs))) None) (le-ltb (position_or_len p (x ∷ xs)) (length (x ∷ xs)) (omega arith))

printable-known : (b : ℕ) → IsPrintable b → is_foreign b ≡ false
printable-known b h = grind (arith, nat_tests)

printable-in_line : (b : ℕ) → IsPrintable b → is_line_feed b ≡ false
printable-in_line b h = grind (arith, nat_tests)

written-known : (lines : List (List ℕ)) → All (All IsPrintable) lines → All (Fails is_foreign) (flat_map ended lines)
written-known [] h = All-nil (Fails is_foreign)
written-known (line ∷ more) h =
    All-append (Fails is_foreign) (ended line) (flat_map ended more)
    (All-push (Fails is_foreign) line line_feed (All-weaker IsPrintable (Fails is_foreign) printable-known line (All-head (All IsPrintable) line more h)) refl)
    (written-known more (All-tail (All IsPrintable) line more h))

IsEnded-push : (body : List ℕ) → IsEnded (body ++ line_feed ∷ [])
IsEnded-push body =
    let text = body ++ line_feed ∷ [] in
    let count : length text ≡ length body + 1 = omega (arith, length-append body (line_feed ∷ [])) in
    slice_get-get_or text (length text - 1) 0 (omega arith) ∙ ap Some (get_or_at body line_feed [] 0 (length text - 1) (omega arith))

-- a text ends with a line feed if its back does
IsEnded-behind : (front back : List ℕ) → IsEnded back → IsEnded (front ++ back)
IsEnded-behind front back h =
    let text = front ++ back in
    let within : length back - 1 < length back = slice_get_within back (length back - 1) line_feed h in
    let place : length text - 1 ≡ length front + (length back - 1) = omega (arith, length-append front back) in
    slice_get-get_or text (length text - 1) 0 (omega (arith, length-append front back))
    ∙ ap (λ k. Some (get_or text k 0)) place
    ∙ ap Some (get_or-append-add front back (length back - 1) 0)
    ∙ ap Some (get_or_from_slice_get back (length back - 1) line_feed 0 h)

IsEnded-written : (lines : List (List ℕ)) → 0 < length lines → IsEnded (flat_map ended lines)
IsEnded-written [] some = absurd (omega arith)
IsEnded-written (line ∷ []) some = subst IsEnded (sym (append-nil (ended line))) (IsEnded-push line)
IsEnded-written (line ∷ next ∷ more) some = IsEnded-behind (ended line) (flat_map ended (next ∷ more)) (IsEnded-written (next ∷ more) (omega arith))

-- one or more printable lines, none of them too long, are a message
pub IsTelex-written : (lines : List (List ℕ)) → 0 < length lines → All (All IsPrintable) lines → All (λ line. length line ≤ longest_line) lines
    → IsTelex (flat_map ended lines)
IsTelex-written lines some printable short =
    let clean : All (All (Fails is_line_feed)) lines =
    All-weaker (All IsPrintable) (All (Fails is_line_feed)) (λ line h. All-weaker IsPrintable (Fails is_line_feed) printable-in_line line h) lines printable in
    let fits : All (Fails is_too_long) (lines ++ [] ∷ []) =
    All-push (Fails is_too_long) lines []
    (All-weaker (λ line. length line ≤ longest_line) (Fails is_too_long) (λ line h. le-ltb longest_line (length line) h) lines short) refl in
    record {
      plain = position-none is_foreign (flat_map ended lines) (written-known lines printable);
      short = ap (λ ps. option_map (λ k. k + 1) (position is_too_long ps)) (pieces-written lines clean)
          ∙ ap (option_map (λ k. k + 1)) (position-none is_too_long (lines ++ [] ∷ []) fits);
      ended = IsEnded-written lines some;
    }
