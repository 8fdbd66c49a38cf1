-- the exchanges of a connection so far, with no word of its link
use Rattle.std.proofs.Common.{◌≡◌, ◌⊎◌, ◌+◌, ℕ, List, [], ◌∷◌, ◌++◌, length, All, Result, refl, sym, ap, ◌∙◌, arith, append-nil, append_assoc, inl, inr}
use Rattle.std.proofs.lemmas.Grind.{flat_map-append}
use Rattle.std.proofs.lemmas.List.Elements.{All-weaker, All-push, All-nil}
use Rattle.flight_history.specs.declared.entry.Entry.{Entry}
use Rattle.http_wire.specs.Requests.{Request}
use Rattle.desk_answers.specs.declared.answer.Answer.{Answer}
use Rattle.desk_answers.specs.declared.errors.PlainError.{PlainError}
use Rattle.desk_requests.specs.declared.asked.Asked.{Asked}
use Rattle.desk_service.specs.Places.{GoesOn}
use Rattle.desk_service.specs.Turns.{Setting, Placed, placed}
use Rattle.desk_service.specs.Exchanges.{Exchange, IsRead, IsServed, IsLate, Answers, AnswersLate}
use Rattle.desk_service.specs.Service.{Service, Answered, entries_of, sent_at, sent_from}
use Rattle.desk_service.proofs.Places.{same_history, goes_on}
use Rattle.desk_service.proofs.Serving.{exchange_on, lacking_on}

pub record Book (s : Setting) (full_before full : Type 0) (desk : ℕ) (first seen : List Entry) (exchanges : List Exchange) : Type 0 where
  pub service : Service s desk seen exchanges
  pub on : GoesOn first seen
  pub own : placed desk seen ≡ placed desk first ++ entries_of exchanges
  pub lacks : (service.late ≡ []) ⊎ full
  -- where there was no room before the first exchange, there is none now, and each request that needs an entry lacks it
  pub still : full_before → full
  pub stuck : full_before → All (IsLate s desk seen) exchanges

pub book_begins : (s : Setting) (full : Type 0) (desk : ℕ) (seen : List Entry) → Book s full full desk seen seen []
book_begins s full desk seen = record {
  service = record { early = []; late = []; all = refl; served = All-nil (IsServed s desk seen); lacking = All-nil (IsLate s desk seen) };
  on = same_history seen seen refl;
  own = sym (append-nil (placed desk seen));
  lacks = inl refl;
  still = λ f. f;
  stuck = λ _. All-nil (IsLate s desk seen);
}

-- an exchange with the entries that its answer made
abbrev pub exchange : Request → Result Asked PlainError → List Placed → Answer → Exchange
exchange request asked entries answer = record { request = request; asked = asked; entries = entries; answer = answer }

pushed_early : (xs early late : List Exchange) (x : Exchange) → late ≡ [] → xs ≡ early ++ late → xs ++ x ∷ [] ≡ (early ++ x ∷ []) ++ late
pushed_early xs early late x none all =
    ap (λ zs. zs ++ x ∷ []) (all ∙ (ap (λ zs. early ++ zs) none ∙ append-nil early))
    ∙ (sym (append-nil (early ++ x ∷ [])) ∙ ap (λ zs. (early ++ x ∷ []) ++ zs) (sym none))

module _ (s : Setting) (full_before full full' : Type 0) (desk : ℕ) (first seen seen' : List Entry) (exchanges : List Exchange)
    (request : Request) (asked : Result Asked PlainError) (answer : Answer) (a : Answered s desk full full' asked answer seen seen') where
  abbrev pub one : Exchange
  one = exchange request asked a.entries answer

  grown : Book s full_before full desk first seen exchanges → placed desk seen' ≡ placed desk first ++ entries_of (exchanges ++ one ∷ [])
  grown b =
      let f : Exchange → List Placed = λ (x : Exchange). x.entries in
      a.own ∙ (ap (λ es. es ++ a.entries) b.own ∙ (append_assoc (placed desk first) (entries_of exchanges) a.entries
      ∙ ap (λ es. placed desk first ++ es) (ap (λ es. entries_of exchanges ++ es) (sym (append-nil a.entries)) ∙ sym (flat_map-append f exchanges (one ∷ [])))))

  -- each lacks its entry where there was no room before the first
  still_late : Book s full_before full desk first seen exchanges → IsRead request asked → full_before → All (IsLate s desk seen') (exchanges ++ one ∷ [])
  still_late b read f =
      All-push (IsLate s desk seen') exchanges one (All-weaker (IsLate s desk seen) (IsLate s desk seen') (lacking_on s desk seen seen' a.on) exchanges (b.stuck f))
      record { read = read; answers = a.stuck (b.still f) }

  later : Book s full_before full desk first seen exchanges → IsRead request asked → full' → AnswersLate s desk seen' asked a.entries answer → Book s full_before full' desk first seen' (exchanges ++ one ∷ [])
  later b read f late =
      let v = b.service in
      record {
        service = record {
          early = v.early;
          late = v.late ++ one ∷ [];
          all = ap (λ zs. zs ++ one ∷ []) v.all ∙ append_assoc v.early v.late (one ∷ []);
          served = All-weaker (IsServed s desk seen) (IsServed s desk seen') (exchange_on s desk seen seen' a.on) v.early v.served;
          lacking = All-push (IsLate s desk seen') v.late one (All-weaker (IsLate s desk seen) (IsLate s desk seen') (lacking_on s desk seen seen' a.on) v.late v.lacking) record { read = read; answers = late };
        };
        on = goes_on first seen seen' b.on a.on;
        own = grown b;
        lacks = inr f;
        still = λ _. f;
        stuck = still_late b read;
      }

  sooner : (b : Book s full_before full desk first seen exchanges) → IsRead request asked → (full → full') → b.service.late ≡ [] → Answers s desk seen' asked a.entries answer → Book s full_before full' desk first seen' (exchanges ++ one ∷ [])
  sooner b read more none is =
      let v = b.service in
      record {
        service = record {
          early = v.early ++ one ∷ [];
          late = v.late;
          all = pushed_early exchanges v.early v.late one none v.all;
          served = All-push (IsServed s desk seen') v.early one (All-weaker (IsServed s desk seen) (IsServed s desk seen') (exchange_on s desk seen seen' a.on) v.early v.served) record { read = read; answers = is };
          lacking = All-weaker (IsLate s desk seen) (IsLate s desk seen') (lacking_on s desk seen seen' a.on) v.late v.lacking;
        };
        on = goes_on first seen seen' b.on a.on;
        own = grown b;
        lacks = inl none;
        still = λ f. more (b.still f);
        stuck = still_late b read;
      }

  placed_by : (b : Book s full_before full desk first seen exchanges) → IsRead request asked → (full → full') → (b.service.late ≡ []) ⊎ full
      → Answers s desk seen' asked a.entries answer ⊎ (full' × AnswersLate s desk seen' asked a.entries answer) → Book s full_before full' desk first seen' (exchanges ++ one ∷ [])
  placed_by b read more (inr f) _ = later b read (more f) (a.stuck f)
  placed_by b read more (inl none) (inl is) = sooner b read more none is
  placed_by b read more (inl none) (inr l) = later b read l.0 l.1

  -- one more exchange
  pub book_more : Book s full_before full desk first seen exchanges → IsRead request asked → (full → full') → Book s full_before full' desk first seen' (exchanges ++ one ∷ [])
  book_more b read more = placed_by b read more b.lacks a.is

-- nothing was asked, and there may be less room
pub book_same : (s : Setting) (full_before full full' : Type 0) (desk : ℕ) (first seen seen' : List Entry) (exchanges : List Exchange) → seen' ≡ seen → (full → full')
    → Book s full_before full desk first seen exchanges → Book s full_before full' desk first seen' exchanges
book_same s full_before full full' desk first seen seen' exchanges same more b =
    let g : GoesOn seen seen' = same_history seen seen' same in
    let v = b.service in
    record {
      service = record {
        early = v.early;
        late = v.late;
        all = v.all;
        served = All-weaker (IsServed s desk seen) (IsServed s desk seen') (exchange_on s desk seen seen' g) v.early v.served;
        lacking = All-weaker (IsLate s desk seen) (IsLate s desk seen') (lacking_on s desk seen seen' g) v.late v.lacking;
      };
      on = goes_on first seen seen' b.on g;
      own = ap (placed desk) same ∙ b.own;
      lacks = room_on (v.late ≡ []) b.lacks;
      still = λ f. more (b.still f);
      stuck = λ f. All-weaker (IsLate s desk seen) (IsLate s desk seen') (lacking_on s desk seen seen' g) exchanges (b.stuck f);
    }
  where
    room_on : (p : Type 0) → p ⊎ full → p ⊎ full'
    room_on p (inl a) = inl a
    room_on p (inr f) = inr (more f)

-- the bytes of one more answer
pub sent-push : (k : ℕ) (xs : List Exchange) (x : Exchange) → sent_from k (xs ++ x ∷ []) ≡ sent_from k xs ++ sent_at (k + length xs) x
sent-push k [] x = append-nil (sent_at k x) ∙ ap (λ j. sent_at j x) (let e : k ≡ k + 0 = omega arith in e)
sent-push k (y ∷ ys) x =
    ap (λ bytes. sent_at k y ++ bytes) (sent-push (k + 1) ys x ∙ ap (λ j. sent_from (k + 1) ys ++ sent_at j x) (let e : (k + 1) + length ys ≡ k + length (y ∷ ys) = omega arith in e))
    ∙ sym (append_assoc (sent_at k y) (sent_from (k + 1) ys) (sent_at (k + length (y ∷ ys)) x))
