use Rattle.std.proofs.Common.{ℕ, suc, zero, ◌+◌, ◌<◌, IsTrue, List, length, get_or, subst, add-one, rules, tests, arith}
use Rattle.faults.specs.Clocks.{Below}
use Rattle.faults.proofs.clocks.filling.rises.Goals as goal

-- the first clock stays below n, and each one after another
each_below : (n : ℕ) (cs : List ℕ) → (0 < length cs → get_or cs 0 0 < n) → ((k : ℕ) → k + 1 < length cs → get_or cs (k + 1) 0 < n) → Below n cs
each_below n cs first later zero l = first l
each_below n cs first later (suc k) l = subst (λ i. get_or cs i 0 < n) (add-one k) (later k (omega arith))

pub returns-then-is_none_or : goal.returns-then-is_none_or
returns-then-is_none_or c =
    let cs = c.args.clocks.now in
    let up : IsTrue c.all.result → (k : ℕ) → k + 1 < length cs → get_or cs k 0 < get_or cs (k + 1) 0 = λ t k l. search rules in
    let below : IsTrue c.all.result → (k : ℕ) → k + 1 < length cs → get_or cs (k + 1) 0 < c.args.n = λ t k l. let h = up t k l in search (tests, arith) in
    ((λ t. (each_below c.args.n cs (search rules) (below t), up t)), λ h. search (rules, tests))
