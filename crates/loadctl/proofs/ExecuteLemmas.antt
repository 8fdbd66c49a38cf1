-- What is made for a run, and the run over it.
use Rattle.std.proofs.Common.{◌≡◌, ℕ, List, [], length, Option, Result, Ok, Err, ◌∙◌, subst}
use Rattle.std.proofs.lemmas.List.{nil_from_length}
use Rattle.std.specs.Prelude.{String}
use Rattle.std.specs.Result.{IfOk, IfErr}
use Rattle.std.specs.declared.alloc.Global.{Global}
use Rattle.plan_commands.specs.Arguments.{arguments_of}
use Rattle.loadctl.specs.Desk.{Surroundings}
use Rattle.loadctl.specs.Needs.{AreNeeded}
use Rattle.loadctl.specs.Execute.{StandFrom, AreDoorsOf, Executes}

-- the doors that are needed are those of the desks
pub doors-of : {D : Type 0} (stands_at : D → ℕ → Type 0) (arguments : List (List ℕ)) (doors : List D) (number port : ℕ) (store : Option ℕ)
    → AreNeeded arguments number port store → length doors ≡ number → StandFrom stands_at port doors → AreDoorsOf stands_at arguments doors
doors-of stands_at arguments doors number port store needed long stand =
    record {
      desks = λ n p names asked.
          let are = needed.desks n p names asked in
          (long ∙ are.0, subst (λ first. StandFrom stands_at first doors) are.1 stand);
      no_desks = λ unasked. nil_from_length doors (long ∙ (needed.no_desks unasked).0);
    }

-- what is said of a run on these arguments holds of the arguments that an answer gives, where it gives these
pub executes-over : {X E K D L : Type 0} {keeps : K → Option (List ℕ) → Type 0} {stands_at : D → ℕ → Type 0} {coming_of handed_of : D → Option (List L)}
    {faults_of : D → ℕ} {input_of output_of : L → Option (List ℕ)} {reads_of writes_of : L → ℕ} {before after : K → Surroundings} {status : ℕ}
    (answer : Result X E) (given : X → List (String Global)) (words : List (String Global)) → IfOk answer (λ x. words ≡ given x)
    → Executes keeps stands_at coming_of handed_of faults_of input_of output_of reads_of writes_of (arguments_of words) before after status
    → IfOk answer (λ x. Executes keeps stands_at coming_of handed_of faults_of input_of output_of reads_of writes_of (arguments_of (given x)) before after status)
executes-over {keeps = keeps} {stands_at = stands_at} {coming_of = coming_of} {handed_of = handed_of} {faults_of = faults_of} {input_of = input_of}
    {output_of = output_of} {reads_of = reads_of} {writes_of = writes_of} {before = before} {after = after} {status = status} (Ok x) given words is over =
    subst (λ ws. Executes keeps stands_at coming_of handed_of faults_of input_of output_of reads_of writes_of (arguments_of ws) before after status) is over
executes-over (Err e) given words is over = tt

-- where an answer says of an error that there are no arguments, the run is one on none
pub executes-none : {X E K D L : Type 0} {keeps : K → Option (List ℕ) → Type 0} {stands_at : D → ℕ → Type 0} {coming_of handed_of : D → Option (List L)}
    {faults_of : D → ℕ} {input_of output_of : L → Option (List ℕ)} {reads_of writes_of : L → ℕ} {before after : K → Surroundings} {status : ℕ}
    (answer : Result X E) (P : E → Type 0) (words : List (String Global)) → IfErr answer (λ e. P e → words ≡ [])
    → Executes keeps stands_at coming_of handed_of faults_of input_of output_of reads_of writes_of (arguments_of words) before after status
    → IfErr answer (λ e. P e → Executes keeps stands_at coming_of handed_of faults_of input_of output_of reads_of writes_of [] before after status)
executes-none (Ok x) P words none over = tt
executes-none {keeps = keeps} {stands_at = stands_at} {coming_of = coming_of} {handed_of = handed_of} {faults_of = faults_of} {input_of = input_of}
    {output_of = output_of} {reads_of = reads_of} {writes_of = writes_of} {before = before} {after = after} {status = status} (Err e) P words none over =
    λ is. subst (λ ws. Executes keeps stands_at coming_of handed_of faults_of input_of output_of reads_of writes_of (arguments_of ws) before after status) (none is) over

-- what holds of every value, and of every error
pub IfOk-always : {X E : Type 0} (r : Result X E) (P : X → Type 0) → ((x : X) → P x) → IfOk r P
IfOk-always (Ok x) P always = always x
IfOk-always (Err e) P always = tt

pub IfErr-always : {X E : Type 0} (r : Result X E) (P : E → Type 0) → ((e : E) → P e) → IfErr r P
IfErr-always (Ok x) P always = tt
IfErr-always (Err e) P always = always e
