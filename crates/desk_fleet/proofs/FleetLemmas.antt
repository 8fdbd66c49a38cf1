-- a fleet that grows file by file
use Rattle.std.proofs.Common.{◌≡◌, ◌≢◌, ℕ, ◌+◌, ◌<◌, ◌≤◌, true, false, List, [], ◌∷◌, ◌++◌, length, take, drop, get_or, refl, sym, ◌∙◌, ap, subst, arith, Option, Some, None, Ok, Err, IfSome, String, Global}
use Rattle.std.specs.Prelude.{string_bytes, bytes_eq}
use Rattle.std.specs.List.{AllZip}
use Rattle.std.proofs.lemmas.List.{take_more, drop_more, map-append, length-map, length-take-le, take-append-drop}
use Rattle.std.proofs.lemmas.List.Folds.{list_any_at}
use Rattle.std.proofs.lemmas.List.Quantifiers.{all_pairs_push}
use Rattle.std.proofs.lemmas.Slice.Eq.{bytes_eq-Decides}
use Rattle.load_io.specs.Shelf.{Files, IsWhole, HasMoreThan}
use Rattle.aircraft_file.specs.Craft.{Craft, AreApart}
use Rattle.aircraft_file.specs.Lawful.{IsAnswerTo}
use Rattle.desk_fleet.specs.declared.fault.FileReason.{FileReason}
use Rattle.desk_fleet.specs.declared.fault.FileReason.TheVariants.{Long, Fault, Twice}
use Rattle.desk_fleet.specs.declared.fault.FleetFault.{FleetFault}
use Rattle.desk_fleet.specs.declared.fault.FleetFault.TheVariants.{Refused, Unread, NoMemory}
use Rattle.desk_fleet.specs.declared.fault.RefusedFile.{RefusedFile}
use Rattle.desk_fleet.specs.Fleet.{longest_file, names_of, CannotJoin, too_long, no_aircraft, taken, IfFault, IfRefused, IsShortFile, IsFileOf, IsRefused, is_taken}

-- One file --------------------------------------------------------------------------------------

-- where the files are exposed, this file of this number cannot join
abbrev pub CannotBe : Option Files → List Craft → List ℕ → ℕ → RefusedFile → Type 0
CannotBe exposed fleet name number file = IfSome exposed (λ files. (file.number ≡ number) × CannotJoin files fleet name file.reason)

pub refused-long : (fault : FleetFault) (exposed : Option Files) (fleet : List Craft) (name : List ℕ) (number : ℕ)
    → IfRefused fault (λ file. (file ≡ record { number = number; reason = Long }) × HasMoreThan exposed name longest_file)
    → IfRefused fault (CannotBe exposed fleet name number)
refused-long (Refused file) None fleet name number long = tt
refused-long (Refused file) (Some files) fleet name number long = rw long.0 (refl, too_long long.1)
refused-long Unread exposed fleet name number long = tt
refused-long NoMemory exposed fleet name number long = tt

fault-joins : (files : Files) (fleet : List Craft) (name text : List ℕ) (reason : FileReason) → IsShortFile files name text
    → IfFault reason (λ fault. IsAnswerTo text (Err fault)) → CannotJoin files fleet name reason
fault-joins files fleet name text Long short answer = absurd answer
fault-joins files fleet name text (Fault fault) short answer = no_aircraft text short answer
fault-joins files fleet name text Twice short answer = absurd answer

pub refused-fault : (fault : FleetFault) (exposed : Option Files) (fleet : List Craft) (name text : List ℕ) (number : ℕ)
    → IsWhole exposed name text → length text ≤ longest_file
    → IfRefused fault (λ file. (file.number ≡ number) × IfFault file.reason (λ fault. IsAnswerTo text (Err fault)))
    → IfRefused fault (CannotBe exposed fleet name number)
refused-fault (Refused file) None fleet name text number whole short said = tt
refused-fault (Refused file) (Some files) fleet name text number whole short said =
    (said.0, fault-joins files fleet name text file.reason (record { is = whole; short = short }) said.1)
refused-fault Unread exposed fleet name text number whole short said = tt
refused-fault NoMemory exposed fleet name text number whole short said = tt

pub file-of : (exposed : Option Files) (name text : List ℕ) (craft : Craft) → IsWhole exposed name text → length text ≤ longest_file → IsAnswerTo text (Ok craft)
    → IfSome exposed (λ files. IsFileOf files name craft)
file-of None name text craft whole short answer = tt
file-of (Some files) name text craft whole short answer =
    record { text = text; file = record { is = whole; short = short }; described = answer }

pub refused-twice : (fault : FleetFault) (exposed : Option Files) (fleet : List Craft) (name : List ℕ) (number : ℕ) (craft : Craft)
    → fault ≡ Refused (record { number = number; reason = Twice }) → IfSome exposed (λ files. IsFileOf files name craft)
    → is_taken fleet craft.registration ≡ true → IfRefused fault (CannotBe exposed fleet name number)
refused-twice fault None fleet name number craft is file held = rw is tt
refused-twice fault (Some files) fleet name number craft is file held = rw is (refl, taken craft file held)

-- The files so far ------------------------------------------------------------------------------

-- where the files are exposed, those of these names describe the fleet so far; its registrations are different
pub record IsSoFar (exposed : Option Files) (names : List (List ℕ)) (fleet : List Craft) : Type 0 where
  pub each : IfSome exposed (λ files. AllZip (IsFileOf files) names fleet)
  pub apart : AreApart fleet

pub free-apart : (fleet : List Craft) (craft : Craft) → is_taken fleet craft.registration ≡ false → AreApart fleet → AreApart (fleet ++ craft ∷ [])
free-apart fleet craft free apart = all_pairs_push (λ (a b : Craft). a.registration ≢ b.registration) fleet craft apart (λ k d within same.
    let equal = (bytes_eq-Decides (get_or fleet k d).registration craft.registration).1 same in
    let found = list_any_at (λ (one : Craft). bytes_eq one.registration craft.registration) fleet k d within equal in
    absurd (cc (found, free)))

zip-push : {A B : Type 0} (R : A → B → Type 0) (xs : List A) (ys : List B) (x : A) (y : B) → AllZip R xs ys → R x y → AllZip R (xs ++ x ∷ []) (ys ++ y ∷ [])
zip-push R [] [] x y each one = (one, tt)
zip-push R [] (b ∷ ys) x y each one = absurd each
zip-push R (a ∷ xs) [] x y each one = absurd each
zip-push R (a ∷ xs) (b ∷ ys) x y each one = (each.0, zip-push R xs ys x y each.1 one)

each-push : (exposed : Option Files) (names : List (List ℕ)) (fleet : List Craft) (name : List ℕ) (craft : Craft)
    → IfSome exposed (λ files. AllZip (IsFileOf files) names fleet) → IfSome exposed (λ files. IsFileOf files name craft)
    → IfSome exposed (λ files. AllZip (IsFileOf files) (names ++ name ∷ []) (fleet ++ craft ∷ []))
each-push None names fleet name craft each one = tt
each-push (Some files) names fleet name craft each one = zip-push (IsFileOf files) names fleet name craft each one

names-more : (names : List (String Global)) (at : ℕ) (d : String Global) → at < length names
    → names_of (take (at + 1) names) ≡ names_of (take at names) ++ string_bytes (get_or names at d) ∷ []
names-more names at d within = ap names_of (take_more names at d within) ∙ map-append string_bytes (take at names) (get_or names at d ∷ [])

pub grown : (exposed : Option Files) (names : List (String Global)) (at : ℕ) (d : String Global) (fleet : List Craft) (craft : Craft) → at < length names
    → IsSoFar exposed (names_of (take at names)) fleet → IfSome exposed (λ files. IsFileOf files (string_bytes (get_or names at d)) craft)
    → is_taken fleet craft.registration ≡ false → IsSoFar exposed (names_of (take (at + 1) names)) (fleet ++ craft ∷ [])
grown exposed names at d fleet craft within far one free = record {
  each = subst (λ before. IfSome exposed (λ files. AllZip (IsFileOf files) before (fleet ++ craft ∷ []))) (sym (names-more names at d within))
      (each-push exposed (names_of (take at names)) fleet (string_bytes (get_or names at d)) craft far.each one);
  apart = free-apart fleet craft free far.apart;
}

split-names : (names : List (String Global)) (at : ℕ) (d : String Global) → at < length names
    → names_of names ≡ names_of (take at names) ++ string_bytes (get_or names at d) ∷ names_of (drop (at + 1) names)
split-names names at d within =
    ap names_of (sym (take-append-drop at names) ∙ ap (λ rest. take at names ++ rest) (drop_more names at d within))
    ∙ map-append string_bytes (take at names) (get_or names at d ∷ drop (at + 1) names)

-- the file at this place cannot join, so that the files are refused
pub refused-here : (fault : FleetFault) (exposed : Option Files) (names : List (String Global)) (at : ℕ) (d : String Global) (fleet : List Craft) → at < length names
    → length fleet ≡ at → IsSoFar exposed (names_of (take at names)) fleet
    → IfRefused fault (CannotBe exposed fleet (string_bytes (get_or names at d)) (length fleet + 1))
    → IfRefused fault (λ file. IfSome exposed (λ files. IsRefused files (names_of names) file))
refused-here (Refused file) None names at d fleet within many far said = tt
refused-here (Refused file) (Some files) names at d fleet within many far said = record {
  before = names_of (take at names);
  name = string_bytes (get_or names at d);
  after = names_of (drop (at + 1) names);
  fleet = fleet;
  at = split-names names at d within;
  number = said.0 ∙ ap (λ n. n + 1) (many ∙ sym (length-map (take at names) string_bytes ∙ length-take-le at names (omega (arith, within))));
  described = record { each = far.each; apart = far.apart };
  reason = said.1;
}
refused-here Unread exposed names at d fleet within many far said = tt
refused-here NoMemory exposed names at d fleet within many far said = tt

-- the names of the loop: the file at hand is the one at this place
pub refused-now : (fault : FleetFault) (exposed held : Option Files) (names : List (String Global)) (at : ℕ) (name : String Global) (text : List ℕ) (fleet given : List Craft)
    → at < length names → name ≡ get_or names at name → text ≡ string_bytes name → given ≡ fleet → held ≡ exposed → length fleet ≡ at
    → IsSoFar exposed (names_of (take at names)) fleet
    → IfRefused fault (λ file. IfSome held (λ files. (file.number ≡ length given + 1) × CannotJoin files given text file.reason))
    → IfRefused fault (λ file. IfSome exposed (λ files. IsRefused files (names_of names) file))
refused-now fault exposed held names at name text fleet given within here spelled all same many far said =
    refused-here fault exposed names at name fleet within many far
    (subst (λ n. IfRefused fault (CannotBe exposed fleet n (length fleet + 1))) (spelled ∙ ap string_bytes here)
    (subst (λ fs. IfRefused fault (CannotBe exposed fs text (length fs + 1))) all
    (subst (λ e. IfRefused fault (CannotBe e given text (length given + 1))) same said)))

pub grown-now : (exposed held : Option Files) (names : List (String Global)) (at : ℕ) (name : String Global) (text : List ℕ) (fleet given next : List Craft) (craft : Craft)
    → at < length names → name ≡ get_or names at name → text ≡ string_bytes name → given ≡ fleet → held ≡ exposed
    → IsSoFar exposed (names_of (take at names)) fleet → IfSome held (λ files. IsFileOf files text craft)
    → is_taken given craft.registration ≡ false → next ≡ fleet ++ craft ∷ [] → IsSoFar exposed (names_of (take (at + 1) names)) next
grown-now exposed held names at name text fleet given next craft within here spelled all same far file free pushed =
    subst (IsSoFar exposed (names_of (take (at + 1) names))) (sym pushed)
    (grown exposed names at name fleet craft within far
    (subst (λ n. IfSome exposed (λ files. IsFileOf files n craft)) (spelled ∙ ap string_bytes here)
    (subst (λ e. IfSome e (λ files. IsFileOf files text craft)) same file))
    (rw all at free))
