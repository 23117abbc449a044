-- Trees of stages that make lawful records.
use Rattle.std.specs.Prelude.{List}
use Rattle.std.specs.List.{AllByRecursion}
use Rattle.hum_nodes.specs.Trees.{Part, Reads, Through, Beside, IsTree, meaning_of}
use Rattle.hum_valid.specs.Records.{AreRecords, KeepsRecords}

-- Of lawful records it makes lawful records. What is read, or put side by side, always is.
abbrev pub Keeps : Part → Type 0
Keeps (Reads bytes) = Unit {0}
Keeps (Through from command) = KeepsRecords command.outcomes
Keeps (Beside from) = Unit {0}

abbrev pub AllKeep : List Part → Type 0
AllKeep = AllByRecursion Keeps

-- A tree of such stages means lawful records.
abbrev pub MeansRecords : List Part → Type 0
MeansRecords parts = IsTree parts → AllKeep parts → AreRecords (meaning_of parts).items
