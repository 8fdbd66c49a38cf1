-- How a run ends, from its reply and from what was written of it.
use Rattle.std.proofs.Common.{◌≡◌, ◌≢◌, ℕ, List, Option, Some, Result, Ok, Err, sym, ap, subst, ◌∙◌}
use Rattle.std.specs.Result.{IfOk, IfErr, IsErrAnd}
use Rattle.base_words.specs.Faults.{Rose}
use Rattle.load_io.specs.Shelf.{Files}
use Rattle.load_io.specs.Sink.{Appends, AppendsPart}
use Rattle.task_answers.specs.declared.reply.Outcome.{Outcome}
use Rattle.task_answers.specs.declared.reply.Outcome.TheVariants.{Usage}
use Rattle.plan_commands.specs.declared.ending.Stop.{Stop}
use Rattle.plan_commands.specs.declared.ending.Stop.TheVariants.{ReadFault, WriteFault, NoMemory}
use Rattle.plan_commands.specs.Arguments.{AreInvalid}
use Rattle.plan_answers.specs.ReplyText.{usage_text}
use Rattle.plan_commands.specs.Reply.{IsReply, IsReplyOver}
use Rattle.plan_commands.specs.Run.{Outside, IsRun}
use Rattle.plan_commands.specs.Run.Ends.{replied, read_fault, write_fault, no_memory}
use Rattle.plan_commands.proofs.ReplyLemmas.{answered-from_reply, bad_input-from_reply}

-- a reply over files that are exposed
exposed_reply : (arguments : List (List ℕ)) (exposed : Option Files) (files : Files) (outcome : Outcome) (text : List ℕ) → exposed ≡ Some files
    → IsReplyOver arguments exposed outcome text → IsReply arguments files outcome text
exposed_reply arguments exposed files outcome text is is_reply = rw is at is_reply

-- the reply was printed whole
pub run-printed : (arguments : List (List ℕ)) (before after : Outside) (outcome : Outcome) (text bytes : List ℕ) → bytes ≡ text
    → IsReplyOver arguments before.files outcome text
    → (outcome ≡ Usage → AreInvalid arguments × (text ≡ usage_text))
    → (AreInvalid arguments → outcome ≡ Usage)
    → Appends before.output after.output bytes
    → after.files ≡ before.files → after.failed_reads ≡ before.failed_reads → after.failed_writes ≡ before.failed_writes
    → IsRun arguments before after (Ok outcome)
run-printed arguments before after outcome text bytes same is_reply usage invalid appended files reads writes = record {
  ends = replied outcome text is_reply (subst (Appends before.output after.output) same appended) reads writes;
  same_files = files;
  usage = λ e.
      let is : outcome ≡ Usage = cc in
      record { invalid = (usage is).0; appended = subst (Appends before.output after.output) (same ∙ (usage is).1) appended };
  invalid = invalid;
  unread = λ _ e. cc;
  complete = λ files exposed names. answered-from_reply arguments files outcome text names (exposed_reply arguments before.files files outcome text exposed is_reply);
  refused = λ files exposed names. bad_input-from_reply arguments files outcome text names (exposed_reply arguments before.files files outcome text exposed is_reply);
}

-- a write failed
pub run-cut : (arguments : List (List ℕ)) (before after : Outside) (outcome : Outcome) (text bytes : List ℕ) → bytes ≡ text
    → IsReplyOver arguments before.files outcome text
    → AppendsPart before.output after.output bytes
    → after.files ≡ before.files → after.failed_reads ≡ before.failed_reads → Rose before.failed_writes after.failed_writes
    → IsRun arguments before after (Err WriteFault)
run-cut arguments before after outcome text bytes same is_reply appended files reads rose = record {
  ends = write_fault outcome text is_reply (subst (AppendsPart before.output after.output) same appended) reads rose;
  same_files = files;
  usage = λ e. cc;
  invalid = λ _. tt;
  unread = λ _ e. cc;
  complete = λ _ _ _. tt;
  refused = λ _ _ _. tt;
}

-- there is no reply
pub run-stopped : (X : Type 0) (arguments : List (List ℕ)) (before after : Outside) (result : Result X Stop) (stop : Stop) → result ≡ Err stop
    → (AreInvalid arguments → result ≢ Err ReadFault) → result ≢ Err WriteFault
    → (result ≡ Err ReadFault → Rose before.failed_reads after.failed_reads)
    → (result ≢ Err ReadFault → after.failed_reads ≡ before.failed_reads)
    → after.files ≡ before.files → after.output ≡ before.output → after.failed_writes ≡ before.failed_writes
    → IsRun arguments before after (Err stop)
run-stopped X arguments before after result ReadFault is unread unwritten counted uncounted files output writes = record {
  ends = read_fault (counted is) output writes;
  same_files = files;
  usage = λ e. cc;
  invalid = λ _. tt;
  unread = λ invalid _. unread invalid is;
  complete = λ _ _ _. tt;
  refused = λ _ _ _. tt;
}
run-stopped X arguments before after result WriteFault is unread unwritten counted uncounted files output writes = absurd (unwritten is)
run-stopped X arguments before after result NoMemory is unread unwritten counted uncounted files output writes = record {
  ends = no_memory output (uncounted (λ e. let other = sym is ∙ e in cc)) writes;
  same_files = files;
  usage = λ e. cc;
  invalid = λ _. tt;
  unread = λ _ e. cc;
  complete = λ _ _ _. tt;
  refused = λ _ _ _. tt;
}

pub IfOk-always : {X E : Type 0} (r : Result X E) (P : X → Type 0) → ((x : X) → P x) → IfOk r P
IfOk-always (Ok x) P always = always x
IfOk-always (Err e) P always = tt

pub IfErr-always : {X E : Type 0} (r : Result X E) (P : E → Type 0) → ((e : E) → P e) → IfErr r P
IfErr-always (Ok x) P always = tt
IfErr-always (Err e) P always = always e

-- the error that `?` returns
pub Err-from_residual : {X : Type 0} (r : Result X Stop) (stop : Stop) → IsErrAnd r (λ e. e ≡ stop) → r ≡ Err stop
Err-from_residual (Ok x) stop is = absurd is
Err-from_residual (Err e) stop is = ap (λ e. Err e) is
