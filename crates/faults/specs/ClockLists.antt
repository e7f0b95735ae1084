-- What a clock list means. Assumes nothing.
use Rattle.faults.specs.Meaning.{Faults}
use Rattle.faults.specs.Clocks.{by_clocks}
use Rattle.faults.specs.declared.clocks.ClockList.{ClockList}

abbrev pub clock_list : ClockList → Faults
clock_list s = by_clocks s.n s.records.now s.clocks.now
