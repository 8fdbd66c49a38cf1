-- a link that was served, as the line of an input and an output
use Rattle.std.proofs.Common.{◌≡◌, ℕ, List, [], Option, sym}
use Rattle.flight_history.specs.declared.entry.Entry.{Entry}
use Rattle.flight_state.specs.declared.state.FlightState.{FlightState}
use Rattle.http_wire.specs.Connection as wire
use Rattle.editions.specs.Books.{Books, HasTables}
use Rattle.keeper.specs.Tables.{Tables}
use Rattle.desk_service.specs.Alone.{Counted, IsLater}
use Rattle.desk_service.specs.Exchanges.{Exchange}
use Rattle.desk_service.specs.Turns.{Setting, setting_of}
use Rattle.desk_http.specs.Served.{Connected, EndsAs, ToTheEnd, NotHeard, NotSent}
use Rattle.desk_http.specs.declared.ending.ConnEnd.{ConnEnd}
use Rattle.desk_http.specs.declared.ending.ConnEnd.TheVariants as end
use Rattle.desk_run.specs.Runs.{Line, line, IsServed}

module _ {J : Type 0} (input output : J → Option (List ℕ)) (reads writes : J → ℕ) (a b : J) where
  to-the-end : (exchanges : List Exchange) (ending : wire.Ending) → ToTheEnd input output reads writes a b exchanges ending
      → ToTheEnd (λ (l : Line). l.input) (λ (l : Line). l.output) (λ (l : Line). l.failed_reads) (λ (l : Line). l.failed_writes)
      (line (input a) (output a) (reads a) (writes a)) (line (input b) (output b) (reads b) (writes b)) exchanges ending
  to-the-end exchanges ending h = record { asked = h.asked; written = h.written; reads = h.reads; writes = h.writes }

  not-heard : (exchanges : List Exchange) → NotHeard input output reads writes a b exchanges
      → NotHeard (λ (l : Line). l.input) (λ (l : Line). l.output) (λ (l : Line). l.failed_reads) (λ (l : Line). l.failed_writes)
      (line (input a) (output a) (reads a) (writes a)) (line (input b) (output b) (reads b) (writes b)) exchanges
  not-heard exchanges h = record { failed = h.failed; asked = h.asked; written = h.written; writes = h.writes }

  not-sent : (exchanges : List Exchange) → NotSent input output reads writes a b exchanges
      → NotSent (λ (l : Line). l.input) (λ (l : Line). l.output) (λ (l : Line). l.failed_reads) (λ (l : Line). l.failed_writes)
      (line (input a) (output a) (reads a) (writes a)) (line (input b) (output b) (reads b) (writes b)) exchanges
  not-sent exchanges h =
      record { failed = h.failed; before = h.before; last = h.last; due = h.due; part = h.part; proper = h.proper; written = h.written; reads = h.reads }

  ends-as : (exchanges : List Exchange) (ending : ConnEnd) → EndsAs input output reads writes ending a b exchanges
      → EndsAs (λ (l : Line). l.input) (λ (l : Line). l.output) (λ (l : Line). l.failed_reads) (λ (l : Line). l.failed_writes) ending
      (line (input a) (output a) (reads a) (writes a)) (line (input b) (output b) (reads b) (writes b)) exchanges
  ends-as exchanges end.Ended h = to-the-end exchanges wire.Ended h
  ends-as exchanges (end.Refused reason) h = to-the-end exchanges (wire.RefusedFor reason) h
  ends-as exchanges end.ReadFault h = not-heard exchanges h
  ends-as exchanges end.WriteFault h = not-sent exchanges h
  ends-as exchanges end.Served h = to-the-end exchanges wire.Served h

  -- how the link was served is how its line was
  pub connected-line : (s : Setting) (full_before full : Type 0) (desk : ℕ) (seen seen' : List Entry) (ending : ConnEnd)
      → Connected input output reads writes s full_before full desk seen seen' a b ending
      → Connected (λ (l : Line). l.input) (λ (l : Line). l.output) (λ (l : Line). l.failed_reads) (λ (l : Line). l.failed_writes) s full_before full desk seen seen'
      (line (input a) (output a) (reads a) (writes a)) (line (input b) (output b) (reads b) (writes b)) ending
  connected-line s full_before full desk seen seen' ending h = record {
    entries = h.entries;
    on = h.on;
    own = h.own;
    served = record {
      exchanges = h.served.exchanges;
      service = h.served.service;
      lacks = h.served.lacks;
      made = h.served.made;
      few = h.served.few;
      ends = ends-as h.served.exchanges ending h.served.ends;
    };
    stuck = h.stuck;
  }

  -- the office that its desk has for itself served the link, and the input and the output ended as the link left them
  pub office-served : (opened closed : Books) (first last : Counted) (faults faults' : ℕ) (held' : Option Tables) (ending : ConnEnd) (opening : List FlightState) (history : List Entry)
      (input' output' : Option (List ℕ)) (reads' writes' : ℕ)
      → first ≡ record { books = opened; faults = faults } → closed ≡ last.books → faults' ≡ last.faults → opened.history ≡ []
      → opening ≡ closed.opening → history ≡ closed.history → HasTables held' closed → IsLater first last
      → input' ≡ input b → output' ≡ output b → reads' ≡ reads b → writes' ≡ writes b
      → Connected input output reads writes (setting_of first.books) (first.books.spare ≡ 0) (last.books.spare ≡ 0) 1 first.books.history last.books.history a b ending
      → IsServed opened held' faults faults' (line (input a) (output a) (reads a) (writes a)) (line input' output' reads' writes') ending opening history
  office-served opened closed first last faults faults' held' ending opening history input' output' reads' writes'
      begins ends counted unasked opens says tables later moved sent read_faults write_faults served = rw (moved, sent, read_faults, write_faults) record {
        closed = closed;
        opening_is = opens;
        history_is = says;
        later = rw (ends, counted) (rw begins at later);
        served = rw (says, ends, sym unasked) (connected-line (setting_of opened) (opened.spare ≡ 0) (last.books.spare ≡ 0) 1 opened.history last.books.history ending (rw begins at served));
        tables = tables;
      }
