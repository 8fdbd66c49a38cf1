-- a link that is served in a history is served in each that continues it
use Rattle.std.proofs.Common.{◌≡◌, ◌⊎◌, ℕ, List, [], Option, inl, inr}
use Rattle.std.proofs.lemmas.List.Elements.{All-weaker}
use Rattle.flight_history.specs.declared.entry.Entry.{Entry}
use Rattle.desk_service.specs.Places.{GoesOn}
use Rattle.desk_service.specs.Turns.{Setting, Placed}
use Rattle.desk_service.specs.Exchanges.{IsServed, IsLate}
use Rattle.desk_service.proofs.Serving.{exchange_on, lacking_on}
use Rattle.desk_http.specs.Served.{Served}
use Rattle.desk_http.specs.declared.ending.ConnEnd.{ConnEnd}

room_on : (full full' p : Type 0) → (full → full') → p ⊎ full → p ⊎ full'
room_on full full' p more (inl a) = inl a
room_on full full' p more (inr f) = inr (more f)

module _ {L : Type 0} (input_of output_of : L → Option (List ℕ)) (reads_of writes_of : L → ℕ) where
  pub served_on : (s : Setting) (full full' : Type 0) (desk : ℕ) (history longer : List Entry) (a b : L) (entries : List Placed) (ending : ConnEnd) → (full → full') → GoesOn history longer
      → Served input_of output_of reads_of writes_of s full desk history a b entries ending → Served input_of output_of reads_of writes_of s full' desk longer a b entries ending
  served_on s full full' desk history longer a b entries ending more g v = record {
    exchanges = v.exchanges;
    service = record {
      early = v.service.early;
      late = v.service.late;
      all = v.service.all;
      served = All-weaker (IsServed s desk history) (IsServed s desk longer) (exchange_on s desk history longer g) v.service.early v.service.served;
      lacking = All-weaker (IsLate s desk history) (IsLate s desk longer) (lacking_on s desk history longer g) v.service.late v.service.lacking;
    };
    lacks = room_on full full' (v.service.late ≡ []) more v.lacks;
    made = v.made;
    few = v.few;
    ends = v.ends;
  }
