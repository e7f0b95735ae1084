use Rattle.std.proofs.Common.{◌^◌, ◌≤◌, arith, pow_mono}
use Rattle.choice.proofs.degrees.DegreeRange.end_code.Goals as goal

pub returns-clause-most : goal.returns-clause-most
returns-clause-most c = let small : 2 ^ c.args.self.high ≤ 2 ^ 24 = pow_mono c.args.self.in_order.most in omega arith
