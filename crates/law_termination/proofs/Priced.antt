-- What an event takes away where a failure that is still to come weighs more than the marks of all.
use Rattle.std.proofs.Common.{◌≡◌, ◌<◌, ◌≤◌, ◌+◌, ◌*◌, ℕ, suc, zero, List, [], ◌∷◌, length, Option, Some, None, Bool, true, false, refl, sym, ap, inl, inr}
use Rattle.std.proofs.Common.{arith, subst, is_some}
use Rattle.std.specs.Prelude.{◌||◌, if◌then◌else◌}
use Rattle.std.specs.List.{list_any}
use Rattle.std.proofs.lemmas.Bool.{or_parts, and_parts, cases_lt}
use Rattle.nuc_base.specs.declared.kinds.Exit.{Exit}
use Rattle.nuc_base.specs.declared.kinds.Step.{Step}
use Rattle.lifecycle.specs.Awaits.{is_same_step, is_stopping}
use Rattle.lifecycle.specs.Life.{Life, IsSound}
use Rattle.lifecycle.specs.Table.{table}
use Rattle.lifecycle.specs.declared.kinds.After.TheVariants as after
use Rattle.lifecycle.specs.declared.kinds.LifeEvent.{LifeEvent}
use Rattle.components.specs.Components.{Components, ComponentState, Child, At, changed_at, is_to_stop, is_leaving, has_orphan, under_way, is_starting, is_up}
use Rattle.components.specs.Lives.{lived, lived_at, drops}
use Rattle.components.specs.Marks.{may_replan}
use Rattle.law_supervisor.specs.Sound.{may_ask}
use Rattle.law_supervisor.proofs.Made.{MayBefall}
use Rattle.law_supervisor.proofs.Items.{same_children}
use Rattle.law_supervisor.proofs.Lists.{either, clash, none_of, not_so, changed_nothing}
use Rattle.law_supervisor.proofs.Alone.{standing}
use Rattle.law_termination.specs.Rank.{left, owed_weight, start_weight, state_weight, times, sum_by, core_by, weight_by}
use Rattle.law_termination.proofs.Answered.{unhanded}
use Rattle.law_termination.proofs.Cores.{core, gain}
use Rattle.law_termination.proofs.Drops.{drops_at}
use Rattle.law_termination.proofs.Falls.{falls_at}
use Rattle.law_termination.proofs.Leaves.{leaves_at}
use Rattle.law_termination.proofs.NoDrops.{no_drop}
use Rattle.law_termination.proofs.Sums.{Pays, IsFallingPart}
use Rattle.law_termination.proofs.Weighed.{AreCheap, Lowers, event_falls, times_less}

abbrev pub total : ℕ → Components → ℕ
total price w = sum_by (weight_by price) w.parts

-- ---- small weights

pub state_small : (p : ComponentState) → state_weight p ≤ 165
state_small p = grind arith

pub owed_small : (o : Option (Step × Exit)) → owed_weight o ≤ 1
owed_small None = omega arith
owed_small (Some x) = omega arith

pub small_times : (n : ℕ) → times n 165 ≤ 165 * n
small_times zero = omega arith
small_times (suc n) = let i = small_times n in omega (arith, i)

same_times : (a b c : ℕ) → a ≡ b → times a c ≡ times b c
same_times a b c e = ap (λ (n : ℕ). times n c) e

-- the landed number and this one fall together
fall_too : (a b l m g c : ℕ) → b + 50000 * m + g ≤ a + 50000 * l → a ≤ 166 → b ≤ 166 → g ≤ 5 → 171 ≤ c → b + times m c + g ≤ a + times l c
fall_too a b l m g c h x y z r = elim (cases_lt m l) [
  | inl lt ↦ (let i = times_less m l c lt in omega (arith, i, x, y, z, r))
  | inr le ↦ elim (cases_lt l m) [
    | inl lt ↦ absurd (omega (arith, h, x, lt))
    | inr ge ↦ (let e : m ≡ l = omega (arith, le, ge) in let t = same_times m l c e in omega (arith, h, e, t))
  ]
]

pay_too : (a b l m c : ℕ) → b + 50000 * m + 49000 ≤ a + 50000 * l → a ≤ 166 → b ≤ 166 → b + times m c + c ≤ a + times l c + 166
pay_too a b l m c h x y = elim (cases_lt m l) [
  | inl lt ↦ (let i = times_less m l c lt in omega (arith, i, y))
  | inr le ↦ absurd (omega (arith, h, x, le))
]

-- ---- marks

left_same : (p : ComponentState) → p.stop ≡ None → left (record p { stop = Some after.Restart }) ≡ left p
left_same p e = rw e refl

pub cheap : (price : ℕ) → AreCheap (weight_by price) 165
cheap price p e =
    let m = and_parts (is_starting p.life.state || is_up p.life.state) (may_replan p) e in
    let o = or_parts (is_to_stop p) p.life.gone (not_so (is_to_stop p || p.life.gone) m.1) in
    let n = none_of p.stop (or_parts (is_some p.stop) (is_stopping p.life.state || has_orphan p) o.0).0 in
    let a = state_small (record p { stop = Some after.Restart }) in
    let b = ap (λ (l : ℕ). times l price) (left_same p n) in
    omega (arith, a, b)

-- ---- of one component

stands_row : (c : Life) (e : LifeEvent) → is_some (table c e) ≡ true → c.gone ≡ false
stands_row c e t = elim (either c.gone) [ inr g ↦ g | inl g ↦ (let x : is_some (table c e) ≡ false = rw g refl in clash (is_some (table c e)) t x) ]

falls : (e : LifeEvent) (p : ComponentState) → IsSound p.life → may_ask (under_way p.life) p.stop ≡ true → MayBefall e p → is_some (table p.life e) ≡ true →
    core (lived false e p) + gain e (lived false e p).life.busy ≤ core p
falls e p k a m t = standing (λ q. IsSound q.life → may_ask (under_way q.life) q.stop ≡ true → MayBefall e q → is_some (table q.life e) ≡ true →
    core (lived false e q) + gain e (lived false e q).life.busy ≤ core q) p (stands_row p.life e t)
    (falls_at p.fitted p.life.steps p.life.failures p.life.busy p.life.runs p.life.install_failed p.life.stop p.children p.handed p.owed p.stop p.next
    p.life.state e) k a m t

leaves : (e : LifeEvent) (p : ComponentState) → IsSound p.life → may_ask (under_way p.life) p.stop ≡ true → MayBefall e p → is_some (table p.life e) ≡ true →
    is_leaving p ≡ true → core (lived true e p) + gain e (lived true e p).life.busy ≤ core p
leaves e p k a m t = standing (λ q. IsSound q.life → may_ask (under_way q.life) q.stop ≡ true → MayBefall e q → is_some (table q.life e) ≡ true →
    is_leaving q ≡ true → core (lived true e q) + gain e (lived true e q).life.busy ≤ core q) p (stands_row p.life e t)
    (leaves_at p.fitted p.life.steps p.life.failures p.life.busy p.life.runs p.life.install_failed p.life.stop p.children p.handed p.owed p.stop p.next
    p.life.state e) k a m t

drops_paid : (e : LifeEvent) (p : ComponentState) → p.life.gone ≡ false → IsSound p.life → MayBefall e p → drops false e p ≡ true →
    core (lived false e p) + 49000 ≤ core p
drops_paid e p g k m d = standing (λ q. IsSound q.life → MayBefall e q → drops false e q ≡ true → core (lived false e q) + 49000 ≤ core q) p g
    (drops_at p.fitted p.life.steps p.life.failures p.life.busy p.life.runs p.life.install_failed p.life.stop p.children p.handed p.owed p.stop p.next
    p.life.state e) k m d

drops_not : (e : LifeEvent) (p : ComponentState) → p.life.gone ≡ false → IsSound p.life → is_leaving p ≡ true → drops true e p ≡ false
drops_not e p g k l = standing (λ q. IsSound q.life → is_leaving q ≡ true → drops true e q ≡ false) p g
    (no_drop p.fitted p.life.steps p.life.failures p.life.busy p.life.runs p.life.install_failed p.life.stop p.children p.handed p.owed p.stop p.next
    p.life.state e) k l

pub start_small : (b : Option Step) (cs : List Child) → start_weight b cs ≤ 4
start_small None cs = omega arith
start_small (Some s) cs = elim (list_any (λ (c : Child). is_same_step s c.of) cs) as (λ b. (if b then 0 else 4) ≤ 4) [
  | true ↦ omega arith
  | false ↦ omega
      arith
]

gain_some : (e : LifeEvent) (s : Step) → gain e (Some s) ≡ 5
gain_some e s = grind arith

pub gain_small : (e : LifeEvent) (b : Option Step) → gain e b ≤ 5
gain_small e b = grind arith

pub paid : (e : LifeEvent) (busy new : Option Step) (cs ds : List Child) → Pays e busy cs ds →
    start_weight new ds + 3 * length ds + 1 ≤ start_weight busy cs + 3 * length cs + gain e new
paid e busy new cs ds (inl x) = let a = start_small new ds in let b = x.0 new in let c = x.1 in omega (arith, a, b, c)
paid e busy None cs ds (inr x) = let a = x.0 in omega (arith, a)
paid e busy (Some s) cs ds (inr x) = let a = start_small (Some s) ds in let b = gain_some e s in let c = x.0 in omega (arith, a, b, c)

pub few_more : (e : LifeEvent) (busy : Option Step) (cs ds : List Child) → Pays e busy cs ds → length ds ≤ length cs + 1
few_more e busy cs ds (inl x) = let a = x.1 in omega (arith, a)
few_more e busy cs ds (inr x) = x.1

module _ (price n : ℕ) (room : 1000 + 200 * n ≤ price) where
  core_falls : (q p : ComponentState) (g : ℕ) → core q + g ≤ core p → g ≤ 5 → core_by price q + g ≤ core_by price p
  core_falls q p g h z =
      let a = state_small p in let b = owed_small p.owed in let c = state_small q in let d = owed_small q.owed in
      fall_too (state_weight p + owed_weight p.owed) (state_weight q + owed_weight q.owed) (left p) (left q) g price h (omega (arith, a, b)) (omega (
        arith,
        c,
        d,
      )) z (omega (arith, room))

  core_pays : (q p : ComponentState) → core q + 49000 ≤ core p → core_by price q + price ≤ core_by price p + 166
  core_pays q p h =
      let a = state_small p in let b = owed_small p.owed in let c = state_small q in let d = owed_small q.owed in
      pay_too (state_weight p + owed_weight p.owed) (state_weight q + owed_weight q.owed) (left p) (left q) price h (omega (arith, a, b)) (omega (arith, c, d))

  lower_by : (x y s t u v g : ℕ) → x + g ≤ y → s + t + 1 ≤ u + v + g → x + (s + t) + 1 ≤ y + (u + v)
  lower_by x y s t u v g a b = omega (arith, a, b)

  paid_by : (x y s k l : ℕ) (u : ℕ) → x + price ≤ y + 166 → s ≤ 4 → k ≤ l + 1 → x + (s + 3 * k) + (times n 165 + 1) ≤ y + (u + 3 * l)
  paid_by x y s k l u a b c = let i = small_times n in omega (arith, a, b, c, i, room)

  abbrev Fall : Bool → LifeEvent → ComponentState → List Child → Type 0
  Fall b e p ds = Lowers (weight_by price) 165 n b e (record p { children = ds }) p

  lowers_driven : (e : LifeEvent) (p : ComponentState) (ds : List Child) → IsSound p.life → may_ask (under_way p.life) p.stop ≡ true
      → MayBefall e (record p { children = ds }) → is_some (table p.life e) ≡ true → Pays e p.life.busy p.children ds → Fall false e p ds
  lowers_driven e p ds k a m t y =
      let q = lived false e (record p { children = ds }) in
      let c = core_falls q (record p { children = ds }) (gain e q.life.busy) (falls e (record p { children = ds }) k a m t) (gain_small e q.life.busy) in
      let z = paid e p.life.busy q.life.busy p.children ds y in
      let v = same_children false e (record p { children = ds }) in
      record {
        lower = subst (λ (cs : List Child). core_by price q + (start_weight q.life.busy cs + 3 * length cs) + 1 ≤ weight_by price p) (sym v)
            (lower_by (core_by price q) (core_by price p) (start_weight q.life.busy ds) (3 * length ds) (start_weight p.life.busy p.children)
            (3 * length p.children) (gain e q.life.busy) c z);
        paid = λ d. subst (λ (cs : List Child). core_by price q + (start_weight q.life.busy cs + 3 * length cs) + (times n 165 + 1) ≤ weight_by price p) (sym v)
            (paid_by (core_by price q) (core_by price p) (start_weight q.life.busy ds) (length ds) (length p.children) (start_weight p.life.busy p.children)
            (core_pays q (record p { children = ds }) (drops_paid e (record p { children = ds }) (stands_row p.life e t) k m d)) (start_small q.life.busy ds)
            (few_more e p.life.busy p.children ds y));
      }

  lowers_leaving : (e : LifeEvent) (p : ComponentState) (ds : List Child) → IsSound p.life → may_ask (under_way p.life) p.stop ≡ true → is_leaving p ≡ true
      → MayBefall e (record p { children = ds }) → is_some (table p.life e) ≡ true → Pays e p.life.busy p.children ds → Fall true e p ds
  lowers_leaving e p ds k a l m t y =
      let q = lived true e (record p { children = ds }) in
      let c = core_falls q (record p { children = ds }) (gain e q.life.busy) (leaves e (record p { children = ds }) k a m t l) (gain_small e q.life.busy) in
      let z = paid e p.life.busy q.life.busy p.children ds y in
      let v = same_children true e (record p { children = ds }) in
      record {
        lower = subst (λ (cs : List Child). core_by price q + (start_weight q.life.busy cs + 3 * length cs) + 1 ≤ weight_by price p) (sym v)
            (lower_by (core_by price q) (core_by price p) (start_weight q.life.busy ds) (3 * length ds) (start_weight p.life.busy p.children)
            (3 * length p.children) (gain e q.life.busy) c z);
        paid = λ d. clash (drops true e (record p { children = ds })) d (drops_not e (record p { children = ds }) (stands_row p.life e t) k l);
      }

  pub lowers : (b : Bool) (e : LifeEvent) (p : ComponentState) (ds : List Child) → IsSound p.life → may_ask (under_way p.life) p.stop ≡ true → IsFallingPart b p
      → MayBefall e (record p { children = ds }) → is_some (table p.life e) ≡ true → Pays e p.life.busy p.children ds → Fall b e p ds
  lowers false e p ds k a f m t y = lowers_driven e p ds k a m t y
  lowers true e p ds k a (inl f) m t y = absurd (cc)
  lowers true e p ds k a (inr l) m t y = lowers_leaving e p ds k a l m t y

-- of a component as it is
pub plain_falls : (price k : ℕ) (e : LifeEvent) (w : Components) → At k (λ p. Lowers (weight_by price) 165 (length w.parts) w.steady e p p) w.parts →
    total price (lived_at k e w) < total price w
plain_falls price k e w a = subst (λ (qs : List ComponentState). total price (lived_at k e (record w { parts = qs })) < total price w)
    (changed_nothing k w.parts) (event_falls (weight_by price) 165 (cheap price) k w.moment w.steady e (λ p. p) w.parts a)

pub answered_total : (price k : ℕ) (ps : List ComponentState) → sum_by (weight_by price) (changed_at k unhanded ps) ≡ sum_by (weight_by price) ps
answered_total price k [] = refl
answered_total price zero (p ∷ ps) = refl
answered_total price (suc k) (p ∷ ps) = ap (λ (n : ℕ). weight_by price p + n) (answered_total price k ps)

pub handed_total : (price k : ℕ) (ps : List ComponentState) → sum_by (weight_by price) (changed_at k (λ p. record p { handed = true }) ps) ≡ sum_by
    (weight_by price) ps
handed_total price k [] = refl
handed_total price zero (p ∷ ps) = refl
handed_total price (suc k) (p ∷ ps) = ap (λ (n : ℕ). weight_by price p + n) (handed_total price k ps)
