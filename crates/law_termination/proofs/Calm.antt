-- What happens between two waits, where no deployment is driven, lowers a number.
use Rattle.std.proofs.Common.{◌≡◌, ◌<◌, ◌≤◌, ◌+◌, ◌*◌, ◌-◌, ◌^◌, ◌==◌, ℕ, suc, zero, List, [], ◌∷◌, length, Option, Some, None, Bool, true, false, refl, sym}
use Rattle.std.proofs.Common.{ap, ◌∙◌, inl, inr, arith, subst, is_some}
use Rattle.std.specs.Prelude.{◌&&◌, ◌||◌, not, if◌then◌else◌, slice_get, IsSomeAnd, IfSome, option_map, option_and_then, nat_le, min}
use Rattle.std.specs.List.{list_all, AllByRecursion}
use Rattle.std.proofs.lemmas.Bool.{and_parts, cases_lt}
use Rattle.nuc_base.specs.declared.kinds.Exit.{Exit}
use Rattle.nuc_base.specs.declared.kinds.Exit.TheVariants as exits
use Rattle.nuc_base.specs.declared.kinds.Step.{Step}
use Rattle.nuc_base.specs.declared.kinds.Step.TheVariants as step
use Rattle.lifecycle.specs.Awaits.{is_awaited, is_same_step, is_busy_with}
use Rattle.lifecycle.specs.Life.{Life, IsSound}
use Rattle.lifecycle.specs.Table.{table}
use Rattle.lifecycle.specs.declared.kinds.After.{After}
use Rattle.lifecycle.specs.declared.kinds.After.TheVariants as after
use Rattle.lifecycle.specs.declared.kinds.LifeEvent.{LifeEvent}
use Rattle.lifecycle.specs.declared.kinds.LifeEvent.TheVariants as event
use Rattle.components.specs.Acts.{MayMove, MayKill, is_kill_due, is_stop_due, spares, kills, OwesAt}
use Rattle.components.specs.Components.{Components, ComponentState, Child, At, changed_at, is_to_stop, is_orphan, child_of, owner, under_way, without_child}
use Rattle.components.specs.Components.{child_gone, stands_up}
use Rattle.components.specs.Deadlines.{deadline_after, has_passed}
use Rattle.components.specs.Events.{killed, gone_by, is_orphan_at, kill_event, kill_event_at, is_late_child, with_child, heard_at}
use Rattle.components.specs.Fitted.{limit_of, prepared_of}
use Rattle.components.specs.Lives.{lived, lived_at, drops}
use Rattle.components.specs.Turns.{may_begin, may_retry, may_stop, is_begun, is_met, serves_softly}
use Rattle.law_supervisor.specs.Sound.{may_ask}
use Rattle.law_supervisor.proofs.Made.{MayBefall}
use Rattle.law_supervisor.proofs.Gone.{owner_at}
use Rattle.law_supervisor.proofs.Items.{same_children}
use Rattle.law_supervisor.proofs.Lists.{either, clash, second_true, some_same, not_so, changed_nothing}
use Rattle.law_supervisor.proofs.Alone.{but, standing}
use Rattle.law_termination.specs.Kept.{IsKeptPart}
use Rattle.law_termination.specs.Rank.{start_weight, times, sum_by}
use Rattle.law_termination.specs.TurnRank.{core_steady, left_steady, late_count, weight_steady}
use Rattle.law_termination.proofs.Answered.{plainly_started}
use Rattle.law_termination.proofs.Children.{other_gone, shorter}
use Rattle.law_termination.proofs.Cores.{gain}
use Rattle.law_termination.proofs.Held.{can_stop}
use Rattle.law_termination.proofs.Options.{some_map, same_self}
use Rattle.law_termination.proofs.Parts.{orphan_at, stands_busy, begun_busy, table_row}
use Rattle.law_termination.proofs.Priced.{state_small, owed_small, start_small, paid}
use Rattle.law_termination.proofs.SteadyRows.{is_of_busy, steady_at, no_drop_at}
use Rattle.law_termination.proofs.Sums.{at_self, at_two, Pays, at_map, at_both}
use Rattle.law_termination.proofs.Weighed.{AreCheap, Lowers, event_falls, sum_changed, times_less}

left_small : (p : ComponentState) → left_steady p ≤ 6
left_small p = grind arith

core_small : (p : ComponentState) → core_steady p ≤ 1366
core_small p = let a = state_small p in let b = owed_small p.owed in let c = left_small p in omega (arith, a, b, c)

small_times : (n : ℕ) → times n 1400 ≤ 1400 * n
small_times zero = omega arith
small_times (suc n) = let i = small_times n in omega (arith, i)

-- ---- late children

late_but : (m n : ℕ) (cs : List Child) → late_count m (but n cs) ≤ late_count m cs
late_but m n [] = omega arith
late_but m n (c ∷ cs) = let i = late_but m n cs in elim (either (c.number == n)) [ inl e ↦ rw e (omega (arith, i)) | inr e ↦ rw e (omega (arith, i)) ]

late_less : (m n : ℕ) (cs : List Child) → IsSomeAnd (child_of n cs) (λ c. has_passed m c.deadline ≡ true) → late_count m (but n cs) + 1 ≤ late_count m cs
late_less m n [] h = absurd h
late_less m n (c ∷ cs) h = elim (c.number == n) as (λ b. IsSomeAnd (if b then Some c else child_of n cs) (λ d. has_passed m d.deadline ≡ true) →
    late_count m (if not b then c ∷ but n cs else but n cs) + 1 ≤ (if has_passed m c.deadline then 1 else 0) + late_count m cs) [
      | true ↦ λ y. (let i = late_but m n cs in rw y (omega (arith, i)))
      | false ↦ λ y. (let i = late_less m n cs y in omega (arith, i))
    ] h

not_late : (o : Option ℕ) (m : ℕ) → IfSome o (λ l. 1 ≤ l) → m + 1 < 2 ^ 62 → has_passed m (deadline_after o m) ≡ false
not_late None m h r = refl
not_late (Some l) m h r = let i : m < min (m + l) (2 ^ 62 - 1) = omega (arith, h, r) in above m (min (m + l) (2 ^ 62 - 1)) i
  where
    above : (a b : ℕ) → a < b → nat_le b a ≡ false
    above a b l = grind (arith, l)

same_times : (a b c : ℕ) → a ≡ b → times a c ≡ times b c
same_times a b c e = ap (λ (n : ℕ). times n c) e

less_times : (a b c : ℕ) → a ≤ b → times a c ≤ times b c
less_times a b c l = elim (cases_lt a b) [
  | inl lt ↦ (let i = times_less a b c lt in omega (arith, i))
  | inr ge ↦ (let e : a ≡ b = omega (arith, l, ge) in let t = same_times a b c e in omega (arith, t))
]

stands_row : (c : Life) (e : LifeEvent) → is_some (table c e) ≡ true → c.gone ≡ false
stands_row c e t = elim (either c.gone) [ inr g ↦ g | inl g ↦ (let x : is_some (table c e) ≡ false = rw g refl in clash (is_some (table c e)) t x) ]

falls : (e : LifeEvent) (p : ComponentState) → IsSound p.life → may_ask (under_way p.life) p.stop ≡ true → MayBefall e p → is_some (table p.life e) ≡ true →
    is_of_busy e p.life.busy ≡ true → core_steady (lived true e p) + gain e (lived true e p).life.busy ≤ core_steady p
falls e p k a m t y = standing (λ q. IsSound q.life → may_ask (under_way q.life) q.stop ≡ true → MayBefall e q → is_some (table q.life e) ≡ true →
    is_of_busy e q.life.busy ≡ true → core_steady (lived true e q) + gain e (lived true e q).life.busy ≤ core_steady q) p (stands_row p.life e t)
    (steady_at p.fitted p.life.steps p.life.failures p.life.busy p.life.runs p.life.install_failed p.life.stop p.children p.handed p.owed p.stop p.next
    p.life.state e) k a m t y

drops_not : (e : LifeEvent) (p : ComponentState) → IsSound p.life → MayBefall e p → is_some (table p.life e) ≡ true → is_of_busy e p.life.busy ≡ true →
    drops true e p ≡ false
drops_not e p k m t y = standing (λ q. IsSound q.life → MayBefall e q → is_some (table q.life e) ≡ true → is_of_busy e q.life.busy ≡ true →
    drops true e q ≡ false) p (stands_row p.life e t)
    (no_drop_at p.fitted p.life.steps p.life.failures p.life.busy p.life.runs p.life.install_failed p.life.stop p.children p.handed p.owed p.stop p.next
    p.life.state e) k m t y

module _ (m c n : ℕ) (room : 3000 + 1400 * n ≤ c) where
  pub cheap_steady : AreCheap (weight_steady m c) 1400
  cheap_steady p e = let a = core_small (record p { stop = Some after.Restart }) in omega (arith, a)

  abbrev Fall : LifeEvent → ComponentState → ComponentState → Type 0
  Fall e q p = Lowers (weight_steady m c) 1400 n true e q p

  lower_by : (x y s t u v g l k : ℕ) → x + g ≤ y → s + t + 1 ≤ u + v + g → l ≤ k → x + (s + t) + l + 1 ≤ y + (u + v) + k
  lower_by x y s t u v g l k a b d = omega (arith, a, b, d)

  -- an event that is no end of a run child
  pub calm_lowers : (e : LifeEvent) (p : ComponentState) (ds : List Child) → IsSound p.life → may_ask (under_way p.life) p.stop ≡ true →
      MayBefall e (record p { children = ds })
      → is_some (table p.life e) ≡ true → is_of_busy e p.life.busy ≡ true → Pays e p.life.busy p.children ds → late_count m ds ≤ late_count m p.children →
      Fall e (record p { children = ds }) p
  calm_lowers e p ds k a b t y z l =
      let q = lived true e (record p { children = ds }) in
      let f = falls e (record p { children = ds }) k a b t y in
      let i = paid e p.life.busy q.life.busy p.children ds z in
      let v = same_children true e (record p { children = ds }) in
      let j = less_times (late_count m ds) (late_count m p.children) c l in
      record {
        lower = subst (λ (cs : List Child). core_steady q + (start_weight q.life.busy cs + 3 * length cs) + times (late_count m cs) c + 1 ≤ weight_steady m c
            p) (sym v)
            (lower_by (core_steady q) (core_steady p) (start_weight q.life.busy ds) (3 * length ds) (start_weight p.life.busy p.children)
            (3 * length p.children) (gain e q.life.busy) (times (late_count m ds) c) (times (late_count m p.children) c) f i j);
        paid = λ d. clash (drops true e (record p { children = ds })) d (drops_not e (record p { children = ds }) k b t y);
      }

  -- a late child is gone: that pays for all
  late_pays : (x y s u k l a b : ℕ) → x ≤ 1366 → s ≤ 4 → k ≤ l → a + 1 ≤ b → x + (s + 3 * k) + times a c + (times n 1400 + 1) ≤ y + (u + 3 * l) + times b c
  late_pays x y s u k l a b p q r t = let i = small_times n in let j = times_less a b c (omega (arith, t)) in omega (arith, p, q, r, i, j, room)

  pub late_lowers : (e : LifeEvent) (p : ComponentState) (ds : List Child) → IsSound p.life → length ds ≤ length p.children →
      late_count m ds + 1 ≤ late_count m p.children → Fall e (record p { children = ds }) p
  late_lowers e p ds k l d =
      let q = lived true e (record p { children = ds }) in
      let v = same_children true e (record p { children = ds }) in
      let z : core_steady q + (start_weight q.life.busy ds + 3 * length ds) + times (late_count m ds) c + (times n 1400 + 1) ≤ weight_steady m c p
      = late_pays (core_steady q) (core_steady p) (start_weight q.life.busy ds) (start_weight p.life.busy p.children) (length ds) (length p.children)
      (late_count m ds) (late_count m p.children) (core_small q) (start_small q.life.busy ds) l d in
      let y : core_steady q + (start_weight q.life.busy q.children + 3 * length q.children) + times (late_count m q.children) c + (times n 1400 + 1) ≤
      weight_steady m c p
      = subst (λ (cs : List Child). core_steady q + (start_weight q.life.busy cs + 3 * length cs) + times (late_count m cs) c + (times n 1400 + 1) ≤
      weight_steady m c p) (sym v) z in
      record { lower = omega (arith, y); paid = λ x. y }

abbrev pub calm_total : ℕ → Components → ℕ
calm_total c w = sum_by (weight_steady w.moment c) w.parts

module _ (w : Components) (kept : AllByRecursion IsKeptPart w.parts) (c : ℕ) (room : 3000 + 1400 * length w.parts ≤ c) (steady : w.steady ≡ true) where
  abbrev Falls : LifeEvent → ComponentState → ComponentState → Type 0
  Falls e q p = Lowers (weight_steady w.moment c) 1400 (length w.parts) w.steady e q p

  in_mode : (e : LifeEvent) (q p : ComponentState) → Lowers (weight_steady w.moment c) 1400 (length w.parts) true e q p → Falls e q p
  in_mode e q p l = subst (λ (b : Bool). Lowers (weight_steady w.moment c) 1400 (length w.parts) b e q p) (sym steady) l

  known : (k : ℕ) (P : ComponentState → Type 0) → At k P w.parts → At k (λ p. IsKeptPart p × P p) w.parts
  known k P a = at_both k w.parts IsKeptPart P kept a

  row : (p : ComponentState) → IsKeptPart p → (e : LifeEvent) → is_awaited e p.life ≡ true → is_some (table p.life e) ≡ true
  row p k e a = table_row p.life e k.sound ∙ a

  stays : (p : ComponentState) (e : LifeEvent) → IsKeptPart p → MayBefall e p → is_awaited e p.life ≡ true → is_of_busy e p.life.busy ≡ true →
      Pays e p.life.busy p.children p.children → Falls e p p
  stays p e k m a y z = in_mode e p p (calm_lowers w.moment c (length w.parts) room e p p.children k.sound k.asks m (row p k e a) y z (omega arith))

  plainly : (k : ℕ) (e : LifeEvent) (P : ComponentState → Type 0) → ((p : ComponentState) → IsKeptPart p → P p → Falls e p p) → At k P w.parts →
      calm_total c (lived_at k e w) < calm_total c w
  plainly k e P g a = subst (λ (qs : List ComponentState). calm_total c (lived_at k e (record w { parts = qs })) < calm_total c w) (changed_nothing k w.parts)
      (event_falls (weight_steady w.moment c) 1400 (cheap_steady w.moment c (length w.parts) room) k w.moment w.steady e (λ p. p) w.parts (at_map k w.parts
      (λ p. IsKeptPart p × P p) (λ p. Falls e p p) (λ p x. g p x.0 x.1) (known k P a)))

  no_more : (cs : List Child) → length cs ≤ length cs
  no_more cs = omega arith

  pub move_calms : (k : ℕ) (e : LifeEvent) → MayMove w k e → calm_total c (lived_at k e w) < calm_total c w
  move_calms k event.MayBegin a = plainly k event.MayBegin (λ p. may_begin w p ≡ true) (λ p x m.
      let y = and_parts (is_awaited event.MayBegin p.life && not (is_to_stop p)) (list_all (is_met stands_up w.parts) p.fitted.hard
      && list_all (is_met serves_softly w.parts) p.fitted.soft) m in
      let z = and_parts (is_awaited event.MayBegin p.life) (not (is_to_stop p)) y.0 in
      stays p event.MayBegin x (not_so (is_to_stop p) z.1) z.0 refl (inl ((λ b. refl), no_more p.children))) a
  move_calms k event.Retry a = plainly k event.Retry (λ p. may_retry p ≡ true) (λ p x m.
      let z = and_parts (is_awaited event.Retry p.life) (not (is_to_stop p)) m in
      stays p event.Retry x (not_so (is_to_stop p) z.1) z.0 refl (inl ((λ b. refl), no_more p.children))) a
  move_calms k (event.Stop s) a = plainly k (event.Stop s) (λ p. (may_stop w p ≡ true) × (p.stop ≡ Some s) × (spares (event.Stop s) p ≡ true)) (λ p x m.
      stays p (event.Stop s) x m.1 (can_stop w p s m.1 m.0).0 refl (inl ((λ b. refl), no_more p.children))) a
  move_calms k event.Launched a = absurd a
  move_calms k event.Skipped a = absurd a
  move_calms k (event.Ended s x) a = absurd a

  -- ---- a failure that is told

  pub told_calms : (k : ℕ) (s : Step) (x : Exit) (b : Bool) → OwesAt w k s x b → calm_total c (heard_at k w) < calm_total c w
  told_calms k s x b a = let z = sum_changed (weight_steady w.moment c) 1400 k (λ p. record p {
    owed = None;
  }) 1 w.parts (at_map k w.parts _ (λ p. weight_steady w.moment c (record p { owed = None }) + 1 ≤ weight_steady w.moment c p) (λ p m. let o =
      m.0 in rw o (omega arith)) a) in omega (arith, z)

  -- ---- a start that is answered

  pub refused_plainly : (k : ℕ) (t : Step) → At k (λ p. is_begun t p ≡ true) w.parts → calm_total c (lived_at k (event.Ended t exits.NotStarted) w) <
      calm_total c w
  refused_plainly k t a = plainly k (event.Ended t exits.NotStarted) (λ p. is_begun t p ≡ true) (λ p x m.
      let b = begun_busy p t m in let g = stands_busy p x t b.0 in let d = b.1 in
      stays p (event.Ended t exits.NotStarted) x tt (rw g (rw b.0 (rw (same_self t) refl))) (rw b.0 (same_self t)) (inr (omega (arith, d), omega arith))) a

  pub skipped_plainly : (k : ℕ) (t : Step) → At k (λ p. is_begun t p ≡ true) w.parts → calm_total c (lived_at k event.Skipped w) < calm_total c w
  skipped_plainly k t a = plainly k event.Skipped (λ p. is_begun t p ≡ true) (λ p x m.
      let b = begun_busy p t m in let g = stands_busy p x t b.0 in let d = b.1 in
      stays p event.Skipped x tt (rw g (rw b.0 refl)) refl (inr (omega (arith, d), omega arith))) a

  module _ (early : w.moment + 1 < 2 ^ 62) where
    no_later : (n : ℕ) (t : Step) (p : ComponentState) → IsKeptPart p → late_count w.moment (with_child n t w.moment p).children ≡ late_count w.moment
        p.children
    no_later n t p i = rw (not_late (limit_of (prepared_of p.fitted t)) w.moment (i.runnable.timely t) early) (omega arith)

    begun : (k : ℕ) (t : Step) → At k (λ p. is_begun t p ≡ true) w.parts → At k (λ p. IsKeptPart p × (is_begun t p ≡ true)) w.parts
    begun k t a = known k (λ p. is_begun t p ≡ true) a

    lives_on : (k n : ℕ) (t : Step) → At k (λ p. is_begun t p ≡ true) w.parts → calm_total c (record w {
      parts = changed_at k (with_child n t w.moment) w.parts;
    }) < calm_total c w
    lives_on k n t a = let z = sum_changed (weight_steady w.moment c) 1400 k (with_child n t w.moment) 1 w.parts (at_map k w.parts (λ p. IsKeptPart p ×
        (is_begun t p ≡ true)) (λ p. weight_steady w.moment c (with_child n t w.moment p) + 1 ≤ weight_steady w.moment c p) (λ p m.
        let b = begun_busy p t m.1 in let e = b.1 in
        let l = same_times (late_count w.moment (with_child n t w.moment p).children) (late_count w.moment p.children) c (no_later n t p m.0) in
        let d : start_weight p.life.busy (with_child n t w.moment p).children ≡ 0 = rw b.0 (rw (same_self t) refl) in
        omega (arith, e, d, l)) (begun k t a)) in omega (arith, z)

    pub started_calms : (k n : ℕ) (t : Step) → At k (λ p. is_begun t p ≡ true) w.parts → calm_total c (plainly_started k t n w) < calm_total c w
    started_calms k n step.Run a = event_falls (weight_steady w.moment c) 1400 (cheap_steady w.moment c (length w.parts) room) k w.moment w.steady
        event.Launched (with_child n step.Run w.moment) w.parts
        (at_map k w.parts (λ p. IsKeptPart p × (is_begun step.Run p ≡ true)) (λ p. Falls event.Launched (with_child n step.Run w.moment
        p) p) (λ p x.
        let b = begun_busy p step.Run x.1 in let g = stands_busy p x.0 step.Run b.0 in let d = b.1 in let l = no_later n step.Run p x.0 in
        in_mode event.Launched (with_child n step.Run w.moment p) p (calm_lowers w.moment c (length w.parts) room event.Launched p (with_child n step.Run
        w.moment p).children x.0.sound x.0.asks tt (row p x.0 event.Launched (rw g (rw b.0 refl))) refl (inr (
          omega (arith, d),
          omega arith,
        )) (omega (arith, l)))) (begun k step.Run a))
    started_calms k n step.Install a = lives_on k n step.Install a
    started_calms k n step.Startup a = lives_on k n step.Startup a
    started_calms k n step.Shutdown a = lives_on k n step.Shutdown a
    started_calms k n step.Recover a = lives_on k n step.Recover a
    started_calms k n step.Bootstrap a = lives_on k n step.Bootstrap a

  -- ---- a kill

  abbrev Owned : ℕ → Step → ComponentState → Type 0
  Owned n s p = IsKeptPart p × IsSomeAnd (child_of n p.children) (λ d. d.of ≡ s)

  child_falls : (k n : ℕ) (s : Step) → owner n w.parts ≡ Some (k, s) → is_orphan_at k s w ≡ true → calm_total c (child_gone k n w) < calm_total c w
  child_falls k n s o y =
      let h = at_self k w.parts (Owned n s) (known k (λ p. IsSomeAnd (child_of n p.children) (λ d. d.of ≡ s)) (owner_at n w.parts k s o)) in
      let z = sum_changed (weight_steady w.moment c) 1400 k (without_child n) 1 w.parts (at_map k w.parts (λ p. Owned n s p ×
      (slice_get w.parts k ≡ Some p)) (λ p. weight_steady w.moment c (without_child n p) + 1 ≤ weight_steady w.moment c p)
      (λ p x. let u = orphan_at k s w p x.1 true y in
      let l = less_times (late_count w.moment (but n p.children)) (late_count w.moment p.children) c (late_but w.moment n p.children) in
      let v = other_gone p.life.busy n p.children (some_map (child_of n p.children) {P = λ d. d.of ≡ s} {R =
      λ d. is_busy_with d.of p.life.busy ≡ false} x.0.1 (λ d q. subst (λ t. is_busy_with t p.life.busy ≡ false) (sym q)
      (not_so (is_busy_with s p.life.busy) (and_parts (not (is_busy_with s p.life.busy)) (not (is_same_step s step.Run && p.life.runs)) u).0))) in
      omega (arith, v, l)) h) in omega (arith, z)

  -- what a kill is, where its child is no orphan
  record IsKill (o : Option LifeEvent) (n : ℕ) (p : ComponentState) : Type 0 where
    what : LifeEvent
    is : o ≡ Some what
    lowers : Falls what (without_child n p) p

  kill_ready : (n : ℕ) (s : Step) (p : ComponentState) → Owned n s p → is_orphan p.life s ≡ false → is_kill_due w n s p ≡ true →
      IsKill (kill_event w.moment n s p) n p
  kill_ready n s p k o d = elim (is_late_child w.moment n p) as (λ b. is_late_child w.moment n p ≡ b →
      (b || (is_orphan p.life s || is_stop_due w p)) ≡ true → IsKill (if b then Some (event.Ended s exits.TimedOut) else option_map (λ a. event.Stop a)
      p.stop) n p) [
        | true ↦ λ q e. record { what = event.Ended s exits.TimedOut; is = refl; lowers = late q }
        | false ↦ λ q e. by_asked p.stop refl (second_true (is_orphan p.life s) (is_stop_due w p) e o)
      ] refl d
    where
      fewer : length (but n p.children) + 1 ≤ length p.children
      fewer = shorter n (λ d. d.of ≡ s) p.children k.1

      late_one : (x : Option Child) → (elim x [ None ↦ false | Some d ↦ has_passed w.moment d.deadline ]) ≡ true →
          IsSomeAnd x (λ d. has_passed w.moment d.deadline ≡ true)
      late_one None e = absurd (cc)
      late_one (Some d) e = e

      late : is_late_child w.moment n p ≡ true → Falls (event.Ended s exits.TimedOut) (without_child n p) p
      late q = in_mode (event.Ended s exits.TimedOut) (without_child n p) p (late_lowers w.moment c (length w.parts) room (event.Ended s exits.TimedOut) p
          (but n p.children) k.0.sound (let l = fewer in omega (arith, l)) (late_less w.moment n p.children (late_one (child_of n p.children) q)))

      by_asked : (q : Option After) → p.stop ≡ q → is_stop_due w p ≡ true → IsKill (option_map (λ a. event.Stop a) q) n p
      by_asked None e z = (let y = (and_parts (may_stop w p) (elim p.stop [ None ↦ false | Some a ↦ kills (event.Stop a) p ]) z).0 in
          let x : may_stop w p ≡ false = rw e refl in clash (may_stop w p) y x)
      by_asked (Some a) e z = (let y = (and_parts (may_stop w p) (elim p.stop [ None ↦ false | Some b ↦ kills (event.Stop b) p ]) z).0 in
          let l = fewer in
          record {
            what = event.Stop a;
            is = refl;
            lowers = in_mode (event.Stop a) (without_child n p) p
                (calm_lowers w.moment c (length w.parts) room (event.Stop a) p (but n p.children) k.0.sound k.0.asks e (row p k.0 (event.Stop a)
                (can_stop w p a e y).0) refl (inl ((λ b. refl), omega (arith, l))) (late_but w.moment n p.children));
          })

  killed_by : (o : Option LifeEvent) (k n : ℕ) (s : Step) → owner n w.parts ≡ Some (k, s) →
      At k (λ p. (is_kill_due w n s p ≡ true) × (kill_event w.moment n s p ≡ o)) w.parts → calm_total c (gone_by o k s n w) < calm_total c w
  killed_by None k n s o a = child_falls k n s o (orphans (slice_get w.parts k) (at_map k w.parts (λ p. IsKeptPart p ×
      (IsSomeAnd (child_of n p.children) (λ d. d.of ≡ s) × ((is_kill_due w n s p ≡ true) × (kill_event w.moment n s p ≡ None)))) (λ p. is_orphan p.life s
      ≡ true) (λ p x.
      elim (either (is_orphan p.life s)) [ inl y ↦ y | inr y ↦ (let r = kill_ready n s p (x.0, x.1.0) y x.1.1.0 in some_none r.what (sym x.1.1.1 ∙ r.is)) ])
      (known k (λ p. IsSomeAnd (child_of n p.children) (λ d. d.of ≡ s) × ((is_kill_due w n s p ≡ true) ×
      (kill_event w.moment n s p ≡ None))) (at_two k w.parts (λ p. IsSomeAnd (child_of n p.children) (λ d. d.of ≡ s)) (λ p. (is_kill_due w n s p ≡ true) ×
      (kill_event w.moment n s p ≡ None)) (owner_at n w.parts k s o) a))))
    where
      orphans : (q : Option ComponentState) → IsSomeAnd q (λ p. is_orphan p.life s ≡ true) → (elim q [ None ↦ false | Some p ↦ is_orphan p.life s ]) ≡ true
      orphans None h = absurd h
      orphans (Some p) h = h

      some_none : {A : Type 0} (e : LifeEvent) → None ≡ Some e → A
      some_none e q = absurd (cc)
  killed_by (Some e) k n s o a =
      let h = at_self k w.parts (λ p. IsKeptPart p × (IsSomeAnd (child_of n p.children) (λ d. d.of ≡ s) ×
      ((is_kill_due w n s p ≡ true) × (kill_event w.moment n s p ≡ Some e))))
      (known k (λ p. IsSomeAnd (child_of n p.children) (λ d. d.of ≡ s) × ((is_kill_due w n s p ≡ true) ×
      (kill_event w.moment n s p ≡ Some e))) (at_two k w.parts (λ p. IsSomeAnd (child_of n p.children) (λ d. d.of ≡ s)) (λ p. (is_kill_due w n s p
      ≡ true) × (kill_event w.moment n s p ≡ Some e)) (owner_at n w.parts k s o) a)) in
      elim (is_orphan_at k s w) as (λ b. is_orphan_at k s w ≡ b → calm_total c (if b then child_gone k n w else lived_at k e (child_gone k n w)) < calm_total
      c w) [
        | true ↦ λ y. child_falls k n s o y
        | false ↦ λ y. event_falls (weight_steady w.moment c) 1400 (cheap_steady w.moment c (length w.parts) room) k w.moment w.steady e (without_child n)
            w.parts
            (at_map k w.parts (λ p. (IsKeptPart p × (IsSomeAnd (child_of n p.children) (λ d. d.of ≡ s) ×
            ((is_kill_due w n s p ≡ true) × (kill_event w.moment n s p ≡ Some e)))) × (slice_get w.parts k ≡ Some p)) (λ p. Falls e (without_child n p) p)
            (λ p x. let r = kill_ready n s p (x.0.0, x.0.1.0) (orphan_at k s w p x.1 false y) x.0.1.1.0 in
            subst (λ v. Falls v (without_child n p) p) (some_same r.what e (sym r.is ∙ x.0.1.1.1)) r.lowers) h)
      ] refl

  pub killed_calms : (n k : ℕ) (s : Step) → MayKill w n k s → calm_total c (killed n w) < calm_total c w
  killed_calms n k s m = subst (λ (z : Option (ℕ × Step)). calm_total c (elim z [ None ↦ w | Some y ↦ gone_by (kill_event_at y.0 y.1 n w) y.0 y.1 n w ]) <
      calm_total c w) (sym m.0)
      (killed_by (kill_event_at k s n w) k n s m.0 (at_map k w.parts (λ p. (is_kill_due w n s p ≡ true) ×
      (slice_get w.parts k ≡ Some p)) (λ p. (is_kill_due w n s p ≡ true) × (kill_event w.moment n s p ≡ kill_event_at k s n w))
      (λ p x. (x.0, sym (ap (λ (o : Option ComponentState). option_and_then (kill_event w.moment n s) o) x.1))) (at_self k w.parts (λ p. is_kill_due w n s p
      ≡ true) m.1)))
