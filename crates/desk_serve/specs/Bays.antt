-- doors and the desks that work at them
use Rattle.std.specs.Prelude.{◌≡◌, ◌<◌, ℕ, Bool, true, false, List, Option, Some, length, slice_index_or, slice_get}
use Rattle.base_words.specs.Faults.{Rose}
use Rattle.flight_history.specs.declared.entry.Entry.{Entry}
use Rattle.flight_history.specs.declared.reply.Reply.{Reply}
use Rattle.flight_history.specs.declared.request.Request.{Request}
use Rattle.desk_lock.specs.declared.desk.Desk.{Desk}
use Rattle.desk_lock.specs.Desks.{IsFull, IsSameDesk, number, origin, seen}
use Rattle.desk_service.specs.Alone.{Counted}
use Rattle.desk_service.specs.Turns.{Setting, setting_of}
use Rattle.desk_serve.specs.Doors.{Attended}
use Rattle.desk_serve.specs.declared.ending.DoorsEnd.{DoorsEnd}
use Rattle.desk_serve.specs.declared.ending.DoorsEnd.TheVariants.{Closed, Failed}

-- a desk of an office that several have together
abbrev pub OfficeDesk : Type 0
OfficeDesk = Desk Counted Request Reply Entry Setting

-- what the desk's office opened with
abbrev pub desk_setting : OfficeDesk → Setting
desk_setting k = setting_of (origin k).machine.books

-- how the work ended, by whether all doors are closed
abbrev pub ending_of : Bool → DoorsEnd
ending_of true = Closed
ending_of false = Failed

-- the relation holds place by place
abbrev pub AreEach : {B : Type 0} → (B → B → Type 0) → List B → List B → Type 0
AreEach {B} R xs ys = (i : ℕ) (d : B) → i < length xs → R (slice_index_or xs i d) (slice_index_or ys i d)

module _ {D L : Type 0} (coming_of handed_of : D → Option (List L)) (faults_of : D → ℕ)
    (input_of output_of : L → Option (List ℕ)) (reads_of writes_of : L → ℕ) where
  -- a desk worked at a door
  pub record Worked (k k' : OfficeDesk) (d d' : D) (closed : Bool) : Type 0 where
    pub same : IsSameDesk k k'
    pub attended : Attended coming_of handed_of faults_of input_of output_of reads_of writes_of
        (desk_setting k) (IsFull k') (number k) (seen k) (seen k') d d' closed

  -- all desks worked at their doors; `all` says whether all doors are closed
  pub record AllWorked (ds ds' : List D) (ks ks' : List OfficeDesk) (all : Bool) : Type 0 where
    pub many : length ds' ≡ length ds
    pub desks : length ks' ≡ length ks
    pub same : (i : ℕ) (k' : OfficeDesk) → slice_get ks' i ≡ Some k'
        → (k : OfficeDesk) × (slice_get ks i ≡ Some k) × IsSameDesk k k'
    pub each : (i : ℕ) (d d' : D) → slice_get ds i ≡ Some d → slice_get ds' i ≡ Some d'
        → (k : OfficeDesk) × (k' : OfficeDesk) × (closed : Bool) × (slice_get ks i ≡ Some k) × (slice_get ks' i ≡ Some k')
        × Worked k k' d d' closed × (all ≡ true → closed ≡ true)
    pub failed : all ≡ false
        → (i : ℕ) × (d : D) × (d' : D) × (slice_get ds i ≡ Some d) × (slice_get ds' i ≡ Some d') × Rose (faults_of d) (faults_of d')
