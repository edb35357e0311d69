-- The data sheet of each kind of chip.
use Rattle.chip.specs.Datasheet.{Datasheet}
use Rattle.crew.specs.declared.kind.Kind.{Kind}
use Rattle.crew.specs.declared.kind.Kind.TheVariants.{Pac193x, Pac194x}
use Rattle.makes.specs.Pac193x.{pac193x}
use Rattle.makes.specs.Pac194x.{pac194x}

abbrev pub sheet_of : Kind → Datasheet
sheet_of Pac193x = pac193x
sheet_of Pac194x = pac194x
