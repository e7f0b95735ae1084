use Rattle.faults.proofs.Lawful.{clock_list_lawful}
use Rattle.faults.proofs.clocks.telling.ClockListFaultList.clocks.Goals as goal

pub returns-clause-lawful : goal.returns-clause-lawful
returns-clause-lawful c = clock_list_lawful c.args.self.now
