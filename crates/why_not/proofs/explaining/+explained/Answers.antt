use Rattle.std.proofs.Common.{◌≡◌, ℕ, ◌+◌, ◌*◌, ◌<◌, refl, sym, subst, ◌∙◌, arith, length, Vec, Global}
use Rattle.std.specs.List.{Contains}
use Rattle.std.proofs.lemmas.Bool.{false≢true}
use Rattle.std.proofs.lemmas.List.{length-map}
use Rattle.recipe_reader.specs.Members.{members, member}
use Rattle.recipe_reader.specs.Sets.{asked, required_names, IsComplete}
use Rattle.why_not.specs.Ends.{IsReachedSet, FitsWith}
use Rattle.why_not.specs.Found.{IsFound, IsTried, UsesUp}
use Rattle.why_not.specs.Fronts.{listed, IsFront}
use Rattle.why_not.specs.Gathers.{JoinsOthers, AreBranchesSoFar, BranchesUseUp, IsPlainSoFar}
use Rattle.why_not.specs.Picks.{IsPicked}
use Rattle.why_not.specs.declared.explaining.Found.TheVariants.{TooLarge, Because}
use Rattle.why_not.specs.declared.why.Why.{Why, Split}
use Rattle.why_not.proofs.Ends.{ended_valid}
use Rattle.why_not.proofs.Finding.{tried_found, stands_with, left_out_found, plain_none, plain_more, beyond_split, split_found}
use Rattle.why_not.proofs.Finding.{uses_none, uses_more, uses_split, uses_later}
use Rattle.why_not.proofs.Gathering.{gathers_start, gathers_skip, gathers_push}
use Rattle.why_not.proofs.explaining.+explained.Goals as goal
use Rattle.why_not.proofs.explaining.+explained.Goals.{
  explained-then-is_named+in_ok-part+in-Because+else-is_left_out+in_ok-add_others-in-Because+in_ok-push-in-Because,
}
use Rattle.why_not.proofs.explaining.+explained.Goals.{explained-else-is_named}

pub tried-explained-requires : goal.tried-explained-requires
tried-explained-requires t c =
    let ms = members c.args.candidates.now in
    let ws = asked c.args.wanted.now in
    let h : 2 * c.args.left.now + 1 ≡ t = c.decreases in
    let falls : 2 * c.args.left.now < t = omega (arith, h) in
    let next = c.requires.next in
    let fits = subst (λ taken. FitsWith ms ws taken c.args.place) c.as_slice.ensures.value (rw c.in_default.is at c.in_ok-part.ensures.found) in (
      falls,
      (
        c.requires.count,
        (
          subst (IsReachedSet ms ws) (sym c.in_ok-push.ensures.items)
              (stands_with ms ws c.args.taken.now.items c.args.place next.0 c.requires.stands next.1 next.2 fits),
          subst (λ taken. IsFront ms ws taken (listed c.in_ok-after.after.names.items)) c.as_slice-2.ensures.value
              (c.in_ok-after.ensures ws c.args.taken.now.items (c.as_slice-2.ensures.value ∙ c.in_ok-push.ensures.items) c.requires.front),
        ),
      ),
    )

pub tried-returns-clause-found : goal.tried-returns-clause-found
tried-returns-clause-found t c =
    let ms = members c.args.candidates.now in
    let ws = asked c.args.wanted.now in
    let fits = subst (λ taken. FitsWith ms ws taken c.args.place) c.as_slice.ensures.value (rw c.in_default.is at c.in_ok-part.ensures.found) in
    tried_found ms ws c.args.taken.now.items c.args.place c.args.form c.args.left.now c.explained.new.left c.in_ok-found.found fits
    (subst (λ taken. IsFound ms ws c.args.form taken c.args.left.now c.explained.new.left c.in_ok-found.found) c.in_ok-push.ensures.items
    c.in_ok-found.ensures.found)

pub explained-returns-in_default-clause-found : goal.explained-returns-in_default-clause-found
explained-returns-in_default-clause-found t c = ended_valid (members c.args.candidates.now) (asked c.args.wanted.now) c.args.taken.now.items c.requires.stands
    (c.in_default.ensures (asked c.args.wanted.now) c.args.taken.now.items c.requires.front)

pub explained-loop-i-init : goal.explained-loop-i-init
explained-loop-i-init t c =
    let ms = members c.args.candidates.now in
    let ws = asked c.args.wanted.now in
    let taken = c.args.taken.now.items in
    let n = c.in-Some.pick.name.now in
    record {
      same = refl;
      falls = omega (arith, c.if-left-eq0.false);
      gathers = subst (AreBranchesSoFar ms ws taken n 0 c.in_ok-used.used.items) (sym c.new-branches.ensures.items)
          (gathers_start ms ws taken n c.in_ok-used.used.items
          (λ x i. subst (λ l. Contains l x) c.as_slice.ensures.value (c.in_ok-used.ensures.within x i)) c.in_ok-used.ensures.required);
      small = subst (BranchesUseUp c.args.left.now _) (sym c.new-branches.ensures.items) (uses_none c.args.left.now _ (omega (arith, c.if-left-eq0.false)));
      plain = λ e. subst (IsPlainSoFar ms ws taken c.args.left.now _) (sym c.new-branches.ensures.items)
          (plain_none ms ws taken c.args.left.now _ (omega (arith, c.if-left-eq0.false)));
    }

pub explained-tried-requires : goal.explained-tried-requires
explained-tried-requires t c =
    let ms = members c.args.candidates.now in
    let ws = asked c.args.wanted.now in
    let h : 2 * c.args.left.now ≡ t = c.decreases in
    let less = c.loop-i.invariant.falls in
    let falls : 2 * c.loop-i.left + 1 < t = omega (arith, h, less) in
    let pick = subst (λ taken. IsPicked ms c.args.form taken (required_names ms ws taken) c.in-Some.pick) (sym c.loop-i.invariant.same)
    (c.in-Some.ensures ws c.args.taken.now.items c.requires.front) in (
      falls,
      (
        c.requires.count,
        (
          subst (IsReachedSet ms ws) (sym c.loop-i.invariant.same) c.requires.stands,
          (
            subst (λ taken. IsFront ms ws taken (listed c.args.front.now.names.items)) (sym c.loop-i.invariant.same) c.requires.front,
            (c.in-Some.pick.name.now, record { required = pick.listed; untaken = pick.untaken }, c.is_named.ensures.0 c.if-is_named.true),
          ),
        ),
      ),
    )

pub explained-returns-then-is_left_out-clause-found : goal.explained-returns-then-is_left_out-clause-found
explained-returns-then-is_left_out-clause-found t c =
    let ms = members c.args.candidates.now in
    let ws = asked c.args.wanted.now in
    let part = c.in-Because.part in
    let found = subst (λ taken. IsTried ms ws c.args.form taken c.loop-i.i c.loop-i.left c.tried.new.left (Because part)) c.loop-i.invariant.same
    (rw c.in-Because.is at c.in_ok-part.ensures.found) in
    left_out_found ms ws c.args.taken.now.items c.loop-i.i c.args.form c.args.left.now c.tried.new.left part found.0
    (λ i. c.is_left_out.ensures.free c.if-is_left_out.true (subst (λ l. Contains l c.loop-i.i) (sym c.as_slice-in-Because.ensures.value) i))
    (λ e. false≢true (sym (c.is_left_out.ensures.plain e) ∙ c.if-is_left_out.true))

pub explained-returns-in-TooLarge-clause-found : goal.explained-returns-in-TooLarge-clause-found
explained-returns-in-TooLarge-clause-found t c = λ e.
    let ms = members c.args.candidates.now in
    let ws = asked c.args.wanted.now in
    let found = subst (λ taken. IsTried ms ws c.args.form taken c.loop-i.i c.loop-i.left c.tried.new.left TooLarge) c.loop-i.invariant.same
    (rw c.in-TooLarge.is at c.in_ok-part.ensures.found) in
    let pick = c.in-Some.ensures ws c.args.taken.now.items c.requires.front in
    beyond_split ms ws c.args.taken.now.items c.in-Some.pick.name.now c.loop-i.i c.args.left.now c.loop-i.left c.loop-i.used.items c.loop-i.branches.items
    (pick.least e) c.loop-i.invariant.gathers (c.is_named.ensures.0 c.if-is_named.true) (c.loop-i.invariant.plain e) (found e)

pub explained-loop-i-preserved : goal.explained-loop-i-preserved
explained-loop-i-preserved t c =
    let ms = members c.args.candidates.now in
    let ws = asked c.args.wanted.now in
    let taken = c.args.taken.now.items in
    let n = c.in-Some.pick.name.now in
    let i = c.loop-i.i in
    let old = c.args.left.now in
    elim c.if-is_named.branch [
      | explained-then-is_named+in_ok-part+in-Because+else-is_left_out+in_ok-add_others-in-Because+in_ok-push-in-Because w ↦ (
          let part = w.in-Because.part in
          let found = subst (λ taken. IsTried ms ws c.args.form taken i c.loop-i.left w.tried.new.left (Because part)) c.loop-i.invariant.same
          (rw w.in-Because.is at w.in_ok-part.ensures.found) in
          let more = w.add_others.new.used.items in
          let joins = subst (λ own. JoinsOthers i own c.loop-i.used.items more) w.as_slice-in-Because-2.ensures.value w.in_ok-add_others-in-Because.ensures in
          let fewer = w.in_ok-part.ensures.fewer in
          let less = c.loop-i.invariant.falls in
          record {
            same = subst (λ (v : Vec ℕ Global). v.items ≡ taken) (sym w.taken-is) (w.in_ok-part.ensures.same ∙ c.loop-i.invariant.same);
            falls = subst (λ l. l < old) (sym w.left-is) (omega (arith, fewer, less));
            gathers = subst (λ (v : Vec ℕ Global). AreBranchesSoFar ms ws taken n (i + 1) v.items c.if-is_named.branches.items) (sym w.used-is)
                (subst (λ (v : Vec (ℕ × Why) Global). AreBranchesSoFar ms ws taken n (i + 1) more v.items) (sym w.branches-is)
                (subst (AreBranchesSoFar ms ws taken n (i + 1) more) (sym w.in_ok-push-in-Because.ensures.items)
                (gathers_push ms ws taken n i c.loop-i.used.items more part.used.items c.loop-i.branches.items part.why c.loop-i.invariant.gathers
                (c.is_named.ensures.0 w.if-is_named.true) found.0 joins)));
            small = subst (λ l. BranchesUseUp old l c.if-is_named.branches.items) (sym w.left-is)
                (subst (λ (v : Vec (ℕ × Why) Global). BranchesUseUp old w.tried.new.left v.items) (sym w.branches-is)
                (subst (BranchesUseUp old w.tried.new.left) (sym w.in_ok-push-in-Because.ensures.items)
                (uses_more old c.loop-i.left w.tried.new.left i c.loop-i.branches.items part c.loop-i.invariant.small
                (rw w.in-Because.is at w.in_ok-part.ensures.small))));
            plain = λ e. subst (λ l. IsPlainSoFar ms ws taken old l c.if-is_named.branches.items) (sym w.left-is)
                (subst (λ (v : Vec (ℕ × Why) Global). IsPlainSoFar ms ws taken old w.tried.new.left v.items) (sym w.branches-is)
                (subst (IsPlainSoFar ms ws taken old w.tried.new.left) (sym w.in_ok-push-in-Because.ensures.items)
                (plain_more ms ws taken old c.loop-i.left w.tried.new.left i c.loop-i.branches.items part.why (c.loop-i.invariant.plain e) (found.1 e))));
          })
      | explained-else-is_named w ↦ record {
        same = subst (λ (v : Vec ℕ Global). v.items ≡ taken) (sym w.taken-is) c.loop-i.invariant.same;
        falls = subst (λ l. l < old) (sym w.left-is) c.loop-i.invariant.falls;
        gathers = subst (λ (v : Vec ℕ Global). AreBranchesSoFar ms ws taken n (i + 1) v.items c.if-is_named.branches.items) (sym w.used-is)
            (subst (λ (v : Vec (ℕ × Why) Global). AreBranchesSoFar ms ws taken n (i + 1) c.loop-i.used.items v.items) (sym w.branches-is)
            (gathers_skip ms ws taken n i c.loop-i.used.items c.loop-i.branches.items c.loop-i.invariant.gathers
            (λ e. false≢true (sym w.if-is_named.false ∙ c.is_named.ensures.1 e))));
        small = subst (λ l. BranchesUseUp old l c.if-is_named.branches.items) (sym w.left-is)
            (subst (λ (v : Vec (ℕ × Why) Global). BranchesUseUp old c.loop-i.left v.items) (sym w.branches-is) c.loop-i.invariant.small);
        plain = λ e. subst (λ l. IsPlainSoFar ms ws taken old l c.if-is_named.branches.items) (sym w.left-is)
            (subst (λ (v : Vec (ℕ × Why) Global). IsPlainSoFar ms ws taken old c.loop-i.left v.items) (sym w.branches-is) (c.loop-i.invariant.plain e));
      }
    ]

pub explained-returns-clause-found : goal.explained-returns-clause-found
explained-returns-clause-found t c =
    let ms = members c.args.candidates.now in
    let ws = asked c.args.wanted.now in
    let taken = c.args.taken.now.items in
    let n = c.in-Some.pick.name.now in
    let end = c.loop-i.auto.i-end in
    let over = c.loop-i-test.false in
    let all : c.loop-i.i ≡ length ms = omega (arith, end, over) ∙ sym (length-map c.args.candidates.now member) in
    let pick = c.in-Some.ensures ws c.args.taken.now.items c.requires.front in
    subst (λ m. IsFound ms ws c.args.form taken c.args.left.now c.loop-i.left (Because (record { why = Split m c.loop-i.branches; used = c.loop-i.used })))
    (sym c.in_ok-copy.ensures)
    (split_found ms ws taken n c.args.form c.args.left.now c.loop-i.left c.loop-i.used c.loop-i.branches
    (subst (λ i. AreBranchesSoFar ms ws taken n i c.loop-i.used.items c.loop-i.branches.items) all c.loop-i.invariant.gathers) pick.untaken pick.least
    c.loop-i.invariant.plain)

pub explained-returns-then-is_left_out-clause-small : goal.explained-returns-then-is_left_out-clause-small
explained-returns-then-is_left_out-clause-small t c =
    uses_later c.args.left.now c.loop-i.left c.tried.new.left c.in-Because.part c.loop-i.invariant.falls (rw c.in-Because.is at c.in_ok-part.ensures.small)

pub explained-returns-clause-small : goal.explained-returns-clause-small
explained-returns-clause-small t c =
    subst (λ m. UsesUp c.args.left.now c.loop-i.left (Because (record { why = Split m c.loop-i.branches; used = c.loop-i.used }))) (sym c.in_ok-copy.ensures)
    (uses_split c.args.left.now c.loop-i.left c.in-Some.pick.name.now c.loop-i.used c.loop-i.branches c.loop-i.invariant.small)
