use Rattle.std.proofs.Common.{◌≡◌, ◌+◌, Bool, IsTrue, ℕ, [], length, ap, arith, subst}
use Rattle.test_journals.proofs.slots.turn.Goals as goal

pub put-requires-clause-room : goal.put-requires-clause-room
put-requires-clause-room g c turns =
    let was = subst (λ (b : Bool). IsTrue b) c.begin_turn.ensures.same.2 turns in
    let zero_is : c.begin_turn.new.self.put_end ≡ 0 = (c.in_ok-begin_turn.ensures.begun was).0 in
    let nine : length c.start-start.result ≡ 9 = ap length c.start-start.ensures in
    omega (arith, zero_is, nine)

pub put-requires-2-clause-room : goal.put-requires-2-clause-room
put-requires-2-clause-room g c turns =
    let still = subst (λ (b : Bool). IsTrue b) c.put.ensures.same.2 turns in
    let was = subst (λ (b : Bool). IsTrue b) c.begin_turn.ensures.same.2 still in
    let begun = c.in_ok-begin_turn.ensures.begun was in
    let zero_is : c.begin_turn.new.self.put_end ≡ 0 = begun.0 in
    let nine : length c.start-start.result ≡ 9 = ap length c.start-start.ensures in
    let first : c.put.new.self.put_end ≡ c.begin_turn.new.self.put_end + 5 + length c.start-start.result = (c.in_ok-put.ensures.is_put [] still
    (c.reserve_turn.ensures.is_put [] still begun.1)).0 in
    omega (arith, zero_is, nine, first)
