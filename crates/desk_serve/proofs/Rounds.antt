-- the links of a door, one after another
use Rattle.std.proofs.Common.{◌≡◌, ◌⊎◌, ℕ, List, [], ◌∷◌, ◌++◌, map, Option, None, Some, Bool, true, false, refl, sym, ap, ◌∙◌, append-nil, append_assoc, subst, inl, inr}
use Rattle.std.specs.List.{All}
use Rattle.std.proofs.lemmas.List.{map-append}
use Rattle.std.proofs.lemmas.Grind.{flat_map-append}
use Rattle.std.proofs.lemmas.List.Elements.{All-weaker, All-push, All-nil, All-append}
use Rattle.base_words.specs.Faults.{Rose}
use Rattle.load_io.specs.Door.{Brings, NoneComes, HandsBack}
use Rattle.flight_history.specs.declared.entry.Entry.{Entry}
use Rattle.desk_service.specs.Places.{GoesOn}
use Rattle.desk_service.specs.Exchanges.{Exchange, IsServed, IsLate}
use Rattle.desk_service.specs.Service.{Service}
use Rattle.desk_service.specs.Turns.{Setting, Placed, placed}
use Rattle.desk_service.proofs.Places.{same_history, goes_on}
use Rattle.desk_service.proofs.Serving.{exchange_on, lacking_on}
use Rattle.desk_http.specs.Served.{Connected}
use Rattle.desk_http.specs.declared.ending.ConnEnd.{ConnEnd}
use Rattle.desk_serve.specs.Links.{BringsAll, HandsAllBack}
use Rattle.desk_serve.specs.Doors.{Connection, all_entries, all_exchanges, IsServedLink, AreServed, Attended}

-- Links --------------------------------------------------------------------------------------------

module _ {L : Type 0} where
  brings_none : (coming : Option (List L)) → BringsAll coming coming []
  brings_none None = refl
  brings_none (Some links) = (links, refl, refl)

  brings_more : (a b c : Option (List L)) (links : List L) (link : L) → BringsAll a b links → Brings b c link → BringsAll a c (links ++ link ∷ [])
  brings_more None b c links link f g = subst (λ z. Brings z c link) f g
  brings_more (Some held) b c links link f g =
      let h : Brings (Some f.0) c link = subst (λ z. Brings z c link) f.2 g in
      (h.0, f.1 ∙ (ap (λ zs. links ++ zs) h.1 ∙ sym (append_assoc links (link ∷ []) h.0)), h.2)

  hands_none : (handed : Option (List L)) → HandsAllBack handed handed []
  hands_none None = refl
  hands_none (Some links) = ap Some (sym (append-nil links))

  hands_more : (a b c : Option (List L)) (links : List L) (link : L) → HandsAllBack a b links → HandsBack b c link → HandsAllBack a c (links ++ link ∷ [])
  hands_more None b c links link f g = subst (λ z. HandsBack z c link) f g
  hands_more (Some held) b c links link f g =
      let h : HandsBack (Some (held ++ links)) c link = subst (λ z. HandsBack z c link) f g in
      h ∙ ap Some (append_assoc held links (link ∷ []))

  abbrev connection : L → L → List Exchange → List Placed → ConnEnd → Connection L
  connection first last exchanges entries ending = record { first = first; last = last; exchanges = exchanges; entries = entries; ending = ending }

still_full : (full full' p : Type 0) → (full → full') → p ⊎ full → p ⊎ full'
still_full full full' p more (inl a) = inl a
still_full full full' p more (inr f) = inr (more f)

-- Services -----------------------------------------------------------------------------------------

-- exchanges that are one service, in which an entry is lacking only where there is no room
pub record Whole (s : Setting) (full : Type 0) (desk : ℕ) (history : List Entry) (exchanges : List Exchange) : Type 0 where
  pub service : Service s desk history exchanges
  pub lacks : (service.late ≡ []) ⊎ full

whole_none : (s : Setting) (full : Type 0) (desk : ℕ) (history : List Entry) → Whole s full desk history []
whole_none s full desk history = record {
  service = record { early = []; late = []; all = refl; served = All-nil (IsServed s desk history); lacking = All-nil (IsLate s desk history) };
  lacks = inl refl;
}

module _ (s : Setting) (full full' : Type 0) (desk : ℕ) (seen seen' : List Entry) (xs ys : List Exchange) (on : GoesOn seen seen') (more : full → full')
    (v : Service s desk seen xs) (w : Service s desk seen' ys) where
  -- more exchanges behind them, all of which lack their entries where there was no room before
  whole_more : (v.late ≡ []) ⊎ full → (w.late ≡ []) ⊎ full' → (full → All (IsLate s desk seen') ys) → Whole s full' desk seen' (xs ++ ys)
  whole_more (inl none) lacks stuck = record {
    service = record {
      early = v.early ++ w.early;
      late = w.late;
      all = ap (λ zs. zs ++ ys) (v.all ∙ (ap (λ zs. v.early ++ zs) none ∙ append-nil v.early))
          ∙ (ap (λ zs. v.early ++ zs) w.all ∙ sym (append_assoc v.early w.early w.late));
      served = All-append (IsServed s desk seen') v.early w.early
          (All-weaker (IsServed s desk seen) (IsServed s desk seen') (exchange_on s desk seen seen' on) v.early v.served) w.served;
      lacking = w.lacking;
    };
    lacks = lacks;
  }
  whole_more (inr f) lacks stuck = record {
    service = record {
      early = v.early;
      late = v.late ++ ys;
      all = ap (λ zs. zs ++ ys) v.all ∙ append_assoc v.early v.late ys;
      served = All-weaker (IsServed s desk seen) (IsServed s desk seen') (exchange_on s desk seen seen' on) v.early v.served;
      lacking = All-append (IsLate s desk seen') v.late ys
          (All-weaker (IsLate s desk seen) (IsLate s desk seen') (lacking_on s desk seen seen' on) v.late v.lacking) (stuck f);
    };
    lacks = inr (more f);
  }

-- Connections ---------------------------------------------------------------------------------------

module _ {D L : Type 0} (coming_of handed_of : D → Option (List L)) (faults_of : D → ℕ) (input_of output_of : L → Option (List ℕ)) (reads_of writes_of : L → ℕ) (s : Setting) where
  -- from a, as the door was at the beginning, to b: these links were served and handed back, and the door did not fail
  pub record Round (full : Type 0) (desk : ℕ) (first seen : List Entry) (a b : D) : Type 0 where
    pub connections : List (Connection L)
    pub on : GoesOn first seen
    pub own : placed desk seen ≡ placed desk first ++ all_entries connections
    pub served : AreServed coming_of handed_of faults_of input_of output_of reads_of writes_of s full desk seen connections
    pub whole : Service s desk seen (all_exchanges connections)
    pub lacks : (whole.late ≡ []) ⊎ full
    pub brought : BringsAll (coming_of a) (coming_of b) (map (λ c. c.first) connections)
    pub handed : HandsAllBack (handed_of a) (handed_of b) (map (λ c. c.last) connections)
    pub faults : faults_of b ≡ faults_of a

  pub round_begins : (full : Type 0) (desk : ℕ) (seen : List Entry) (a : D) → Round full desk seen seen a a
  round_begins full desk seen a = record {
    connections = [];
    on = same_history seen seen refl;
    own = sym (append-nil (placed desk seen));
    served = All-nil (IsServedLink coming_of handed_of faults_of input_of output_of reads_of writes_of s full desk seen);
    whole = (whole_none s full desk seen).service;
    lacks = (whole_none s full desk seen).lacks;
    brought = brings_none (coming_of a);
    handed = hands_none (handed_of a);
    faults = refl;
  }

  -- what was served in a history was served in each that continues it
  link_served_on : (full full' : Type 0) (desk : ℕ) (history longer : List Entry) (c : Connection L) → (full → full') → GoesOn history longer
      → IsServedLink coming_of handed_of faults_of input_of output_of reads_of writes_of s full desk history c → IsServedLink coming_of handed_of faults_of input_of output_of reads_of writes_of s full' desk longer c
  link_served_on full full' desk history longer c more on x =
      let v = x.served in
      record {
        served = record {
          exchanges = v.exchanges;
          service = record {
            early = v.service.early;
            late = v.service.late;
            all = v.service.all;
            served = All-weaker (IsServed s desk history) (IsServed s desk longer) (exchange_on s desk history longer on) v.service.early v.service.served;
            lacking = All-weaker (IsLate s desk history) (IsLate s desk longer) (lacking_on s desk history longer on) v.service.late v.service.lacking;
          };
          lacks = still_full full full' (v.service.late ≡ []) more v.lacks;
          made = v.made;
          few = v.few;
          ends = v.ends;
        };
        by = x.by;
      }

  pub all_served_on : (full full' : Type 0) (desk : ℕ) (history longer : List Entry) (connections : List (Connection L)) → (full → full') → GoesOn history longer
      → AreServed coming_of handed_of faults_of input_of output_of reads_of writes_of s full desk history connections → AreServed coming_of handed_of faults_of input_of output_of reads_of writes_of s full' desk longer connections
  all_served_on full full' desk history longer connections more on served =
      All-weaker (IsServedLink coming_of handed_of faults_of input_of output_of reads_of writes_of s full desk history) (IsServedLink coming_of handed_of faults_of input_of output_of reads_of writes_of s full' desk longer)
      (λ c x. link_served_on full full' desk history longer c more on x) connections served

  -- a link came in from b to c
  pub record CameIn (link : L) (b c : D) : Type 0 where
    pub brought : Brings (coming_of b) (coming_of c) link
    pub handed : handed_of c ≡ handed_of b
    pub faults : faults_of c ≡ faults_of b

  module _ (full full' : Type 0) (desk : ℕ) (first seen seen' : List Entry) (a b c d : D) (link link' : L) (ending : ConnEnd) where
    -- a link came in, was served, and was handed back
    pub round_more : Round full desk first seen a b → (full → full') → CameIn link b c
        → Connected input_of output_of reads_of writes_of s full full' desk seen seen' link link' ending
        → HandsBack (handed_of c) (handed_of d) link' → coming_of d ≡ coming_of c → faults_of d ≡ faults_of c → Round full' desk first seen' a d
    round_more r more came x handed same faults =
        let one : Connection L = connection link link' x.served.exchanges x.entries ending in
        let all : Whole s full' desk seen' (all_exchanges (r.connections ++ one ∷ [])) = subst (Whole s full' desk seen')
        (ap (λ xs. all_exchanges r.connections ++ xs) (sym (append-nil x.served.exchanges)) ∙ sym (flat_map-append (λ (c : Connection L). c.exchanges) r.connections (one ∷ [])))
        (whole_more s full full' desk seen seen' (all_exchanges r.connections) x.served.exchanges x.on more r.whole x.served.service r.lacks x.served.lacks x.stuck) in
        record {
          connections = r.connections ++ one ∷ [];
          on = goes_on first seen seen' r.on x.on;
          own = x.own ∙ (ap (λ es. es ++ x.entries) r.own ∙ (append_assoc (placed desk first) (all_entries r.connections) x.entries
              ∙ ap (λ es. placed desk first ++ es) (ap (λ es. all_entries r.connections ++ es) (sym (append-nil x.entries)) ∙ sym (flat_map-append (λ (c : Connection L). c.entries) r.connections (one ∷ [])))));
          served = All-push (IsServedLink coming_of handed_of faults_of input_of output_of reads_of writes_of s full' desk seen') r.connections one
              (all_served_on full full' desk seen seen' r.connections more x.on r.served) (record { served = x.served; by = refl });
          whole = all.service;
          lacks = all.lacks;
          brought = subst (λ z. BringsAll (coming_of a) z (map (λ (c : Connection L). c.first) (r.connections ++ one ∷ []))) (sym same)
              (subst (BringsAll (coming_of a) (coming_of c)) (sym (map-append (λ (c : Connection L). c.first) r.connections (one ∷ [])))
              (brings_more (coming_of a) (coming_of b) (coming_of c) (map (λ (c : Connection L). c.first) r.connections) link r.brought came.brought));
          handed = subst (HandsAllBack (handed_of a) (handed_of d)) (sym (map-append (λ (c : Connection L). c.last) r.connections (one ∷ [])))
              (hands_more (handed_of a) (handed_of b) (handed_of d) (map (λ (c : Connection L). c.last) r.connections) link' r.handed (subst (λ z. HandsBack z (handed_of d) link') came.handed handed));
          faults = faults ∙ (came.faults ∙ r.faults);
        }

  module _ (full : Type 0) (desk : ℕ) (first seen : List Entry) (a b c : D) where
    attended : (closed : Bool) → Round full desk first seen a b → coming_of c ≡ coming_of b → handed_of c ≡ handed_of b
        → (closed ≡ true → NoneComes (coming_of c)) → (closed ≡ false → Rose (faults_of a) (faults_of c))
        → Attended coming_of handed_of faults_of input_of output_of reads_of writes_of s full desk first seen a c closed
    attended closed r same handed ended failed = record {
      connections = r.connections;
      on = r.on;
      own = r.own;
      served = r.served;
      whole = r.whole;
      handles = record {
        brought = subst (λ z. BringsAll (coming_of a) z (map (λ (c : Connection L). c.first) r.connections)) (sym same) r.brought;
        handed = subst (λ z. HandsAllBack (handed_of a) z (map (λ (c : Connection L). c.last) r.connections)) (sym handed) r.handed;
        ended = ended;
        failed = failed;
      };
    }
