use Rattle.aircraft_text.proofs.figure_lines.push_tolerance.Goals as goal

pub returns : goal.returns
returns c = rw (c.tolerance_mass.ensures.value, c.tolerance_index.ensures.value) at c.push_line.ensures
