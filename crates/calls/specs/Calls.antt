-- The machine's call for the call of a trace's record. Assumes nothing.
use Rattle.machine.specs.Machine as machine
use Rattle.records.specs.declared.Call.{Call}
use Rattle.records.specs.declared.Call.TheVariants.{Create, Alloc, Release, Shrink, Query, SoftReset, HardReset}

abbrev pub call_by : Call → machine.Call
call_by (Create a) = machine.create a
call_by (Alloc size) = machine.alloc size
call_by (Release a) = machine.release a
call_by (Shrink a size) = machine.shrink a size
call_by (Query a) = machine.query a
call_by SoftReset = machine.soft_reset
call_by HardReset = machine.hard_reset
