use Rattle.std.proofs.Common.{◌++◌, ◌∷◌, [], ap, ◌∙◌}
use Rattle.std.specs.Prelude.{codes}
use Rattle.telex.specs.Elements.{line_text}
use Rattle.ldm_cpm.specs.Messages.{crew_elements, board_elements}
use Rattle.ldm_cpm.specs.Sheets.{heading_on, board_on}
use Rattle.ldm_cpm.proofs.Texts.{ldm-built}
use Rattle.ldm_cpm.proofs.ldm_writer.write_ldm.Goals as goal

pub returns-clause-written : goal.returns-clause-written
returns-clause-written c =
    let s = c.args.s.now in
    let crew = line_text (crew_elements (heading_on s) s.dry.cockpit s.dry.attendants) in
    let board = line_text (board_elements (board_on s)) in
    c.finish.ensures ∙ c.in_ok-push_board.ensures
    ∙ ap (λ t. t ++ (board ++ 10 ∷ [])) (c.in_ok-push_crew.ensures ∙ ap (λ t. t ++ (crew ++ 10 ∷ [])) (c.in_ok-text.ensures.added ∙ ap (λ t. t ++ codes "LDM\n") c.new-out.ensures))
    ∙ ldm-built crew board

pub returns-clause-read_back : goal.returns-clause-read_back
returns-clause-read_back c = λ spelled. record { spelled = spelled; is = returns-clause-written c }
