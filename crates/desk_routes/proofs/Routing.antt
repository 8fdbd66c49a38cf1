-- the router's rows, and what it finds
use Rattle.std.proofs.Common.{◌≡◌, ◌∙◌, ℕ, ◌+◌, ◌<◌, ◌≤◌, List, [], length, drop, get_or, Result, Ok, Err, OnOk, Some, None, true, false, option_map, refl, sym, ap, subst, inl, inr, IsUtf8}
use Rattle.std.specs.Result.{IfOk, OnErr, result_ok}
use Rattle.std.specs.Str.{is_utf8}
use Rattle.std.proofs.lemmas.Option.{same_Some}
use Rattle.std.proofs.lemmas.List.{drop_all, drop_more}
use Rattle.std.proofs.lemmas.Bool.{cases_Bool}
use Rattle.std.proofs.lemmas.Str.{is_utf8-from_IsUtf8, IsUtf8-from_is_utf8}
use Rattle.matchit.specs.Router.{InsertsRead, RouteOf}
use Rattle.matchit.specs.Route.{Scan, parse_route}
use Rattle.matchit.specs.Seek.{first}
use Rattle.matchit.specs.declared.error.InsertError.{InsertError}
use Rattle.desk_routes.specs.declared.route.Route.{Route}
use Rattle.desk_routes.specs.Paths.{DeskRows, added, added_as, all_routes, desk_rows, path_of, rows_with}
use Rattle.desk_routes.specs.Targets.{has_query, route_found, route_of}

adds_as : (x : Result Scan InsertError) (route : Route) (old new : DeskRows) (r : Result (Unit {0}) InsertError) → InsertsRead x route old new r → OnOk r (new ≡ added_as x route old)
adds_as (Ok s) route old new (Ok u) h = h.1
adds_as (Ok s) route old new (Err e) h = tt
adds_as (Err e) route old new (Ok u) h = h.0
adds_as (Err e) route old new (Err f) h = tt

-- an insert that was done added its route
pub adds : (route : Route) (old new : DeskRows) (r : Result (Unit {0}) InsertError) → InsertsRead (parse_route (path_of route)) route old new r → OnOk r (new ≡ added route old)
unfolding added
adds route old new r h = adds_as (parse_route (path_of route)) route old new r h

-- an answer by what is left of it without its error
pub if_some : {A E : Type 0} (r : Result A E) (a : A) (P : A → Type 0) → result_ok r ≡ Some a → IfOk r P → P a
if_some (Ok x) a P is p = subst P (same_Some x a is) p
if_some (Err e) a P is p = absurd (cc is)

pub if_none : {A E : Type 0} (r : Result A E) (X : Type 0) → result_ok r ≡ None → OnErr r X → X
if_none (Ok x) X is p = absurd (cc is)
if_none (Err e) X is p = p

-- what the router of the desk finds
pub some_found : (path : List ℕ) (rows : DeskRows) (found : RouteOf Route) → rows ≡ desk_rows → first rows path ≡ Some found → route_found path ≡ Some found.value
unfolding route_found
some_found path rows found same is = ap (λ (r : DeskRows). option_map (λ (f : RouteOf Route). f.value) (first r path)) (sym same) ∙ ap (option_map (λ (f : RouteOf Route). f.value)) is

pub none_found : (path : List ℕ) (rows : DeskRows) → rows ≡ desk_rows → first rows path ≡ None → route_found path ≡ None
unfolding route_found
none_found path rows same is = ap (λ (r : DeskRows). option_map (λ (f : RouteOf Route). f.value) (first r path)) (sym same) ∙ ap (option_map (λ (f : RouteOf Route). f.value)) is

-- the route of a target by its bytes
pub no_text : (target : List ℕ) → (IsUtf8 target → ⊥) → None ≡ route_of target
unfolding route_of
no_text target other = elim (cases_Bool (is_utf8 target)) [
  | inl utf8 ↦ absurd (other (IsUtf8-from_is_utf8 target utf8))
  | inr bad ↦ rw bad refl
]

pub no_query : (target : List ℕ) → IsUtf8 target → has_query target ≡ true → None ≡ route_of target
unfolding route_of
no_query target utf8 query = rw (is_utf8-from_IsUtf8 target utf8, query) refl

pub plain_target : (target : List ℕ) → IsUtf8 target → has_query target ≡ false → route_found target ≡ route_of target
unfolding route_of
plain_target target utf8 query = rw (is_utf8-from_IsUtf8 target utf8, query) refl

-- one route more
pub one_more : (i : ℕ) (old new : DeskRows) (d : Route) → i < length all_routes → new ≡ added (get_or all_routes i d) old → rows_with (drop i all_routes) old ≡ rows_with all_routes []
    → rows_with (drop (i + 1) all_routes) new ≡ rows_with all_routes []
one_more i old new d within grew so =
    ap (rows_with (drop (i + 1) all_routes)) grew ∙ sym (ap (λ rs. rows_with rs old) (drop_more all_routes i d within)) ∙ so

pub all_added : (i : ℕ) (rows : DeskRows) → length all_routes ≤ i → rows_with (drop i all_routes) rows ≡ rows_with all_routes [] → rows ≡ desk_rows
unfolding desk_rows
all_added i rows past so = ap (λ rs. rows_with rs rows) (sym (drop_all i all_routes past)) ∙ so
