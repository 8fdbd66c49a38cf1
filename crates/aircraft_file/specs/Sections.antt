-- a section of the document as its reader keeps it
use Rattle.std.specs.Prelude.{option_map}
use Rattle.toml.specs.View.{table_view}
use Rattle.aircraft_file.specs.declared.section.Section.{Section}
use Rattle.aircraft_file.specs.Document.{Contents}

abbrev pub contents : Section → Contents
contents section = option_map (λ table. table_view table.now) section.table
