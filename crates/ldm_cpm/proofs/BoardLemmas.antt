-- The elements of a load message's third line, part by part.
use Rattle.std.proofs.Common.{◌≡◌, ℕ, ◌+◌, List, ◌++◌}
use Rattle.std.specs.List.{flat_map}
use Rattle.std.specs.Prelude.{codes}
use Rattle.mass_units.specs.Spelling.{number_text}
use Rattle.telex.specs.Elements.{said}
use Rattle.telex.specs.Parts.{dot, slash}
use Rattle.telex.specs.declared.reading.Part.{Part}
use Rattle.ldm_cpm.specs.Messages.{OnBoard, total, load_elements, seat_elements}

-- parts that say what is on board
pub record SaysBoard (a b c d t : Part) (rest : List Part) (m : OnBoard) : Type 0 where
  pub to_mark : a.before ≡ 0
  pub to : a.text.now ≡ codes "-" ++ m.destination
  pub adults_mark : b.before ≡ dot
  pub adults : b.text.now ≡ number_text m.adults
  pub children_mark : c.before ≡ slash
  pub children : c.text.now ≡ number_text m.children
  pub infants_mark : d.before ≡ slash
  pub infants : d.text.now ≡ number_text m.infants
  pub total_mark : t.before ≡ dot
  pub total_text : t.text.now ≡ codes "T" ++ number_text (total m.loads)
  pub behind : said rest ≡ flat_map load_elements m.loads ++ seat_elements (number_text (m.adults + m.children))
