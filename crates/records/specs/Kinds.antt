-- Document 01, The trace: the number of each kind of record. Assumes nothing.
use Rattle.std.specs.Prelude.{ℕ}
use Rattle.records.specs.declared.Kind.{Kind}
use Rattle.records.specs.declared.Kind.TheVariants.{Create, Alloc, Release, Shrink, Query, SoftReset, HardReset}

abbrev pub number : Kind → ℕ
number Create = 1
number Alloc = 2
number Release = 3
number Shrink = 4
number Query = 5
number SoftReset = 6
number HardReset = 7
