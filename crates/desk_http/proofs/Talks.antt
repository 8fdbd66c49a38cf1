-- a connection, step by step
use Rattle.std.proofs.Common.{◌≡◌, ◌⊎◌, ◌+◌, ◌-◌, ◌<◌, ◌≤◌, ◌==◌, ◌||◌, ℕ, suc, Bool, List, [], ◌∷◌, ◌++◌, length, Option, Some, None, IsTrue, IsFalse, refl, sym, ap, ◌∙◌, subst, arith, append-nil, length-append, inl, inr}
use Rattle.std.proofs.lemmas.Bool.Decides.{nat_tests}
use Rattle.std.proofs.lemmas.List.{map-append, length-map}
use Rattle.base_words.specs.Faults.{Rose}
use Rattle.load_io.specs.Sink.{Appends}
use Rattle.load_io.proofs.SinkLemmas.{Appends-append}
use Rattle.flight_history.specs.declared.entry.Entry.{Entry}
use Rattle.http_wire.specs.Connection as wire
use Rattle.http_wire.specs.Hearing.{to_come}
use Rattle.http_wire.specs.declared.refusals.Refusal.{Refusal}
use Rattle.desk_service.specs.Turns.{Setting}
use Rattle.desk_service.specs.Exchanges.{Exchange}
use Rattle.desk_service.specs.Service.{entries_of, requests_of, sent, sent_at}
use Rattle.desk_http.specs.Served.{EndsAs, Connected, refusal_bytes}
use Rattle.desk_http.specs.Steps.{Exchanges, Writes, BreaksOff, Continues, IsLastOne, BreaksAnswer, IsAtEnd, IsRefused, BreaksRefusal, Steps, bytes_of}
use Rattle.desk_http.specs.declared.ending.ConnEnd.{ConnEnd}
use Rattle.desk_http.specs.declared.ending.ConnEnd.TheVariants as end
use Rattle.desk_http.proofs.Books.{Book, book_begins, book_more, book_same, exchange, sent-push}
use Rattle.desk_http.proofs.Hearings.{AreHeard, AreAll, none_heard, one_more, last_heard, most_heard, end_heard, refusal_heard, next_heard, refused_behind, broken_behind}

pub nothing_sent : (held : Option (List ℕ)) → Appends held held []
nothing_sent None = refl
nothing_sent (Some bytes) = ap Some (sym (append-nil bytes))

-- a last answer, or none
with_no_words : (old new : Option (List ℕ)) (bytes : List ℕ) → Appends old new bytes → Appends old new (bytes ++ [])
with_no_words old new bytes wrote = subst (Appends old new) (sym (append-nil bytes)) wrote

-- the request is no last one, where the connection goes on
not_last : (is_final last : Bool) → IsFalse last ⊎ IsTrue is_final → IsFalse is_final → IsFalse last
not_last is_final last (inl no_more) plain = no_more
not_last is_final last (inr final) plain = absurd (let e = sym plain ∙ final in grind arith)

-- it is the last one that the connection may have exactly where it is said to be
closing : (n : ℕ) (is_final : Bool) (last : Bool) → (is_final ≡ (n + 1 == 1000)) → (last || is_final) ≡ (last || (n + 1 == 1000))
closing n is_final last same = ap (λ (b : Bool). last || b) same

module _ {L : Type 0} (input_of output_of : L → Option (List ℕ)) (reads_of writes_of : L → ℕ) (s : Setting) (desk : ℕ) where
  -- a step of the same desk in the same setting
  pub in_setting : (s' : Setting) (desk' : ℕ) (full full' : Type 0) (seen seen' : List Entry) (heard heard' : List ℕ) (over : Bool) (b c : L) (is_final : Bool) (r : Option ConnEnd) → s' ≡ s → desk' ≡ desk
      → Steps input_of output_of reads_of writes_of s' desk' full full' seen seen' heard heard' over b c is_final r
      → Steps input_of output_of reads_of writes_of s desk full full' seen seen' heard heard' over b c is_final r
  in_setting s' desk' full full' seen seen' heard heard' over b c is_final r same number step =
      subst (λ (d : ℕ). Steps input_of output_of reads_of writes_of s d full full' seen seen' heard heard' over b c is_final r) number
      (subst (λ (x : Setting). Steps input_of output_of reads_of writes_of x desk' full full' seen seen' heard heard' over b c is_final r) same step)

module _ {L : Type 0} (input_of output_of : L → Option (List ℕ)) (reads_of writes_of : L → ℕ) (s : Setting) (desk : ℕ) (first : List Entry) (a : L) (full_before : Type 0) where
  -- the connection so far, in which nothing failed
  pub record Talk (full : Type 0) (seen : List Entry) (b : L) (heard : List ℕ) (n : ℕ) : Type 0 where
    pub exchanges : List Exchange
    pub book : Book s full_before full desk first seen exchanges
    pub count : length exchanges ≡ n
    pub asked : AreHeard (input_of a) (requests_of exchanges) (to_come heard (input_of b))
    pub written : Appends (output_of a) (output_of b) (sent exchanges)
    pub reads : reads_of b ≡ reads_of a
    pub writes : writes_of b ≡ writes_of a

  module _ (full full' : Type 0) (seen seen' : List Entry) (heard heard' : List ℕ) (over : Bool) (b c : L) (is_final : Bool) (n : ℕ)
      (t : Talk full seen b heard n) (more : full → full') (final : is_final ≡ (n + 1 == 1000)) (below : n < 1000) where
    -- one more exchange
    abbrev Next : Type 0
    Next = Exchanges s desk full full' seen seen' (to_come heard (input_of b)) (input_of c) heard'

    abbrev one : Next → Exchange
    one x = exchange x.request x.asked x.answered.entries x.answer

    booked : (x : Next) → Book s full_before full' desk first seen' (t.exchanges ++ one x ∷ [])
    booked x = book_more s full_before full full' desk first seen seen' t.exchanges x.request x.asked x.answer x.answered t.book x.read more

    counted : (x : Next) → length (t.exchanges ++ one x ∷ []) ≡ n + 1
    counted x = length-append t.exchanges (one x ∷ []) ∙ ap (λ (k : ℕ). k + 1) t.count

    many : length (requests_of t.exchanges) ≡ n
    many = length-map t.exchanges (λ (x : Exchange). x.request) ∙ t.count

    -- its requests, and its bytes
    requests-push : (x : Next) → requests_of (t.exchanges ++ one x ∷ []) ≡ requests_of t.exchanges ++ x.request ∷ []
    requests-push x = map-append (λ (y : Exchange). y.request) t.exchanges (one x ∷ [])

    bytes-one : (x : Next) → bytes_of x.answer (x.request.last || is_final) ≡ sent_at (length t.exchanges) (one x)
    bytes-one x =
        ap (bytes_of x.answer) (closing n is_final x.request.last final)
        ∙ ap (λ (k : ℕ). sent_at k (one x)) (sym t.count)

    bytes-push : (x : Next) → sent (t.exchanges ++ one x ∷ []) ≡ sent t.exchanges ++ bytes_of x.answer (x.request.last || is_final)
    bytes-push x = sent-push 0 t.exchanges (one x) ∙ (ap (λ (k : ℕ). sent t.exchanges ++ sent_at k (one x)) (let e : 0 + length t.exchanges ≡ length t.exchanges = omega arith in e)
        ∙ ap (λ bytes. sent t.exchanges ++ bytes) (sym (bytes-one x)))

    wrote : (x : Next) → Writes input_of output_of reads_of writes_of b c (bytes_of x.answer (x.request.last || is_final)) → Appends (output_of a) (output_of c) (sent (t.exchanges ++ one x ∷ []))
    wrote x w = subst (Appends (output_of a) (output_of c)) (sym (bytes-push x)) (Appends-append _ _ _ _ _ t.written w.written)

    pub talk_more : (k : Continues input_of output_of reads_of writes_of s desk full full' seen seen' heard heard' over b c is_final) → IsFalse is_final → Talk full' seen' c heard' (n + 1)
    talk_more k plain = record {
      exchanges = t.exchanges ++ one k.more ∷ [];
      book = booked k.more;
      count = counted k.more;
      asked = subst (λ rs. AreHeard (input_of a) rs (to_come heard' (input_of c))) (sym (requests-push k.more))
          (one_more (input_of a) (to_come heard (input_of b)) (input_of c) heard' (requests_of t.exchanges) k.more.request t.asked k.more.next (not_last is_final k.more.request.last k.next plain));
      written = wrote k.more k.wrote;
      reads = k.wrote.reads ∙ t.reads;
      writes = k.wrote.writes ∙ t.writes;
    }

    pub stays_open : Continues input_of output_of reads_of writes_of s desk full full' seen seen' heard heard' over b c is_final → IsFalse is_final → IsFalse over
    stays_open k plain = k.said ∙ not_last is_final k.more.request.last k.next plain

    -- the end of the connection, with these exchanges
    abbrev pub Ends : ConnEnd → Type 0
    Ends ending = Connected input_of output_of reads_of writes_of s full_before full' desk first seen' a c ending

    finish : (ending : ConnEnd) (exchanges : List Exchange) → Book s full_before full' desk first seen' exchanges → length exchanges ≤ 1000
        → EndsAs input_of output_of reads_of writes_of ending a c exchanges → Ends ending
    finish ending exchanges b few ends = record {
      entries = entries_of exchanges;
      on = b.on;
      own = b.own;
      served = record { exchanges = exchanges; service = b.service; lacks = b.lacks; made = refl; few = few; ends = ends };
      stuck = b.stuck;
    }

    unchanged : seen' ≡ seen → Book s full_before full' desk first seen' t.exchanges
    unchanged same = book_same s full_before full full' desk first seen seen' t.exchanges same more t.book

    few_so_far : length t.exchanges ≤ 1000
    few_so_far = let count = t.count in omega (arith, count, below)

    few_with : (x : Next) → length (t.exchanges ++ one x ∷ []) ≤ 1000
    few_with x = let count = counted x in omega (arith, count, below)

    room : length (requests_of t.exchanges) + suc (999 - n) ≡ 1000
    room = let count = many in omega (arith, count, below)

    at_end : IsAtEnd input_of output_of reads_of writes_of s desk full full' seen seen' heard heard' over b c is_final → Ends end.Ended
    at_end k = finish end.Ended t.exchanges (unchanged k.same) few_so_far record {
      asked = end_heard (input_of a) (to_come heard (input_of b)) (999 - n) 1000 (requests_of t.exchanges) room t.asked k.none;
      written = Appends-append _ _ _ _ _ t.written k.wrote.written;
      reads = k.wrote.reads ∙ t.reads;
      writes = k.wrote.writes ∙ t.writes;
    }

    last_one : IsLastOne input_of output_of reads_of writes_of s desk full full' seen seen' heard heard' over b c is_final → Ends end.Ended
    last_one k = finish end.Ended (t.exchanges ++ one k.more ∷ []) (booked k.more) (few_with k.more) record {
      asked = subst (λ rs. AreAll (input_of a) 1000 rs wire.Ended) (sym (requests-push k.more))
          (last_heard (input_of a) (to_come heard (input_of b)) (input_of c) heard' (999 - n) 1000 (requests_of t.exchanges) k.more.request room (some k.before) t.asked k.more.next k.last);
      written = with_no_words (output_of a) (output_of c) (sent (t.exchanges ++ one k.more ∷ [])) (wrote k.more k.wrote);
      reads = k.wrote.reads ∙ t.reads;
      writes = k.wrote.writes ∙ t.writes;
    }
      where
        some : IsFalse is_final → 0 < 999 - n
        some no_more = grind (arith, nat_tests)

    refused : (reason : Refusal) → IsRefused input_of output_of reads_of writes_of s desk full full' seen seen' heard heard' over b c is_final reason → Ends (end.Refused reason)
    refused reason k = finish (end.Refused reason) t.exchanges (unchanged k.same) few_so_far record {
      asked = refusal_heard (input_of a) (to_come heard (input_of b)) (999 - n) 1000 (requests_of t.exchanges) reason room t.asked k.refused;
      written = Appends-append _ _ _ _ _ t.written k.wrote.written;
      reads = k.wrote.reads ∙ t.reads;
      writes = k.wrote.writes ∙ t.writes;
    }

    broken : BreaksOff input_of output_of reads_of writes_of b c heard → seen' ≡ seen → Ends end.ReadFault
    broken k same = finish end.ReadFault t.exchanges (unchanged same) few_so_far record {
      failed = subst (λ (n : ℕ). Rose n (reads_of c)) t.reads k.failed;
      asked = broken_behind (input_of a) (to_come heard (input_of b)) (input_of c) (requests_of t.exchanges) t.asked k.broken;
      written = subst (λ z. Appends (output_of a) z (sent t.exchanges)) (sym k.output) t.written;
      writes = k.writes ∙ t.writes;
    }

    breaks_answer : BreaksAnswer input_of output_of reads_of writes_of s desk full full' seen seen' heard heard' over b c is_final → Ends end.WriteFault
    breaks_answer k = finish end.WriteFault (t.exchanges ++ one k.more ∷ []) (booked k.more) (few_with k.more) record {
      failed = subst (λ (n : ℕ). Rose n (writes_of c)) t.writes k.part.failed;
      before = sent t.exchanges;
      last = bytes_of k.more.answer (k.more.request.last || is_final);
      due = inl record {
        earlier = t.exchanges;
        x = one k.more;
        all = refl;
        asked = next_heard (input_of a) (to_come heard (input_of b)) (input_of c) heard' (requests_of t.exchanges) k.more.request t.asked k.more.next;
        before_is = refl;
        last_is = bytes-one k.more;
      };
      part = k.part.written.0;
      proper = k.part.written.1;
      written = Appends-append _ _ _ _ _ t.written k.part.written.2;
      reads = k.part.reads ∙ t.reads;
    }

    breaks_refusal : BreaksRefusal input_of output_of reads_of writes_of s desk full full' seen seen' heard heard' over b c is_final → Ends end.WriteFault
    breaks_refusal k = finish end.WriteFault t.exchanges (unchanged k.same) few_so_far record {
      failed = subst (λ (n : ℕ). Rose n (writes_of c)) t.writes k.part.failed;
      before = sent t.exchanges;
      last = refusal_bytes k.reason;
      due = inr record {
        reason = k.reason;
        refused = refused_behind (input_of a) (to_come heard (input_of b)) (requests_of t.exchanges) k.reason t.asked k.refused;
        before_is = refl;
        last_is = refl;
      };
      part = k.part.written.0;
      proper = k.part.written.1;
      written = Appends-append _ _ _ _ _ t.written k.part.written.2;
      reads = k.part.reads ∙ t.reads;
    }

    -- a step that ends the connection
    pub ended : (ending : ConnEnd) → Steps input_of output_of reads_of writes_of s desk full full' seen seen' heard heard' over b c is_final (Some ending) → Ends ending
    ended end.Ended (inl k) = at_end k
    ended end.Ended (inr k) = last_one k
    ended (end.Refused reason) k = refused reason k
    ended end.ReadFault k = broken k.0 k.1
    ended end.WriteFault (inl k) = breaks_answer k
    ended end.WriteFault (inr k) = breaks_refusal k
    ended end.Served k = absurd k

    -- the last request that a connection may have
    pub most_served : Continues input_of output_of reads_of writes_of s desk full full' seen seen' heard heard' over b c is_final → n ≡ 999 → Ends end.Served
    most_served k all = finish end.Served (t.exchanges ++ one k.more ∷ []) (booked k.more) (few_with k.more) record {
      asked = subst (λ rs. AreAll (input_of a) 1000 rs wire.Served) (sym (requests-push k.more))
          (most_heard (input_of a) (to_come heard (input_of b)) (input_of c) heard' 1000 (requests_of t.exchanges) k.more.request (let count = many in omega (arith, count, all)) t.asked k.more.next);
      written = with_no_words (output_of a) (output_of c) (sent (t.exchanges ++ one k.more ∷ [])) (wrote k.more k.wrote);
      reads = k.wrote.reads ∙ t.reads;
      writes = k.wrote.writes ∙ t.writes;
    }

  pub talk_begins : Talk full_before first a [] 0
  talk_begins = record {
    exchanges = [];
    book = book_begins s full_before desk first;
    count = refl;
    asked = none_heard (input_of a);
    written = nothing_sent (output_of a);
    reads = refl;
    writes = refl;
  }
