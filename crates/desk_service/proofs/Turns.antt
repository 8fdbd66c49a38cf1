-- a call that is answered makes one entry of its desk
use Rattle.std.proofs.Common.{◌≡◌, ℕ, List, [], ◌∷◌, ◌++◌, length, refl, ap, ◌∙◌, append_assoc}
use Rattle.flight_history.specs.declared.entry.Entry.{Entry}
use Rattle.flight_history.specs.declared.reply.Reply.{Reply}
use Rattle.flight_history.specs.declared.request.Request.{Request}
use Rattle.desk_service.specs.Places.{GoesOn}
use Rattle.desk_service.specs.Turns.{Setting, Placed, placed, IsMade, Calls}
use Rattle.desk_service.proofs.Places.{placed_others, placed_own, stands_on}

module _ (s : Setting) (desk : ℕ) (request : Request) (reply : Reply) (seen seen' : List Entry) (c : Calls s desk request reply seen seen') where
  abbrev pub before : List Entry
  before = seen ++ c.between

  -- the entry with its place
  abbrev pub made : Placed
  made = (length before, c.entry)

  pub call_on : GoesOn seen seen'
  call_on = record { rest = c.between ++ c.entry ∷ []; is = c.grown ∙ append_assoc seen c.between (c.entry ∷ []) }

  pub call_own : placed desk seen' ≡ placed desk seen ++ made ∷ []
  call_own = ap (placed desk) c.grown
      ∙ (placed_own (λ (entry : Entry). entry.desk) desk before c.entry (ap (λ (entry : Entry). entry.desk) c.turn.of_entry ∙ c.turn.by_desk)
      ∙ ap (λ zs. zs ++ made ∷ []) (placed_others (λ (entry : Entry). entry.desk) desk seen c.between c.others))

  pub call_made : IsMade s desk seen' request made reply
  call_made = record { before = before; stands = record { after = []; at = c.grown; long = refl }; turn = c.turn }

-- what is made stands in every history that continues
pub made_on : (s : Setting) (desk : ℕ) (h h' : List Entry) → GoesOn h h' → (request : Request) (made : Placed) (reply : Reply)
    → IsMade s desk h request made reply → IsMade s desk h' request made reply
made_on s desk h h' g request made reply m = record { before = m.before; stands = stands_on h h' made.0 m.before made.1 m.stands g; turn = m.turn }
