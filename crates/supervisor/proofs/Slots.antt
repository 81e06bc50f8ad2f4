-- A component that meets what comes for it.
use Rattle.std.proofs.Common.{◌≡◌, ◌<◌, ℕ, Bool, true, false, Option, Some, None, refl, sym, ap, ◌∙◌, ◌⊎◌, inl, inr, subst}
use Rattle.std.specs.Prelude.{◌||◌, if◌then◌else◌, IfSome}
use Rattle.lifecycle.specs.Life.{Life}
use Rattle.lifecycle.specs.Awaits.{is_stopping}
use Rattle.lifecycle.specs.declared.kinds.After.{After}
use Rattle.lifecycle.specs.declared.kinds.After.TheVariants as after
use Rattle.components.specs.Changes.{Coming, coming_again, fresh_part, is_replaced, meeting, replacing, staying, with_texts}
use Rattle.components.specs.Fitted.{Fitted, is_same_item, steps_of}
use Rattle.components.specs.Readied.{IsFresh, coming_of}
use Rattle.components.specs.Runs.{IsKeptPart}
use Rattle.components.specs.Components.{ComponentState, is_again, is_gone, stops_for_good}

-- ---- a stop that is under way

good_at : (b : Bool) (o : Option After) → (is_again (if b then o else None) || is_gone (if b then o else None)) ≡ true →
    (o ≡ Some after.Again) ⊎ (o ≡ Some after.Gone)
good_at true None e = absurd (cc)
good_at true (Some after.Restart) e = absurd (cc)
good_at true (Some after.Again) e = inl refl
good_at true (Some after.Gone) e = inr refl
good_at false o e = absurd (cc)

pub good_stop : (c : Life) → stops_for_good c ≡ true → (c.stop ≡ Some after.Again) ⊎ (c.stop ≡ Some after.Gone)
good_stop c e = good_at (is_stopping c.state) c.stop e

pub replacing_plain : (n : Coming) (p : ComponentState) → stops_for_good p.life ≡ false → record p { stop = Some after.Again; next = Some n } ≡ replacing n p
replacing_plain n p e = sym (ap (λ (b : Bool). if b then record p { life = record p.life { stop = Some after.Restart }; stop = Some after.Again; next = Some n }
    else record p { stop = Some after.Again; next = Some n }) e)

pub replacing_good : (n : Coming) (p : ComponentState) (d : Life) → stops_for_good p.life ≡ true → d ≡ record p.life { stop = Some after.Restart } →
    record p { life = d; stop = Some after.Again; next = Some n } ≡ replacing n p
replacing_good n p d e f =
    ap (λ (x : Life). record p { life = x; stop = Some after.Again; next = Some n }) f
    ∙ sym (ap (λ (b : Bool). if b then record p { life = record p.life { stop = Some after.Restart }; stop = Some after.Again; next = Some n } else record p
    { stop = Some after.Again; next = Some n }) e)

-- ---- its item as it is expanded now

pub texts_same : (f : Fitted) (p : ComponentState) (o : Option Coming) → is_same_item f.item p.fitted.item ≡ true → o ≡ p.next →
    record p { fitted = f; next = o } ≡ with_texts f p
texts_same f p o e n =
    ap (λ (u : Option Coming). record p { fitted = f; next = u }) n ∙ sym (ap (λ (b : Bool). if b then record p { fitted = f } else p) e)

pub texts_other : (f : Fitted) (p : ComponentState) → is_same_item f.item p.fitted.item ≡ false → p ≡ with_texts f p
texts_other f p e = sym (ap (λ (b : Bool). if b then record p { fitted = f } else p) e)

pub texts_kept : (f : Fitted) (p : ComponentState) (o : Option Coming) → steps_of f ≡ steps_of p.fitted → o ≡ p.next → IsKeptPart p →
    IsKeptPart (record p { fitted = f; next = o })
texts_kept f p o s n k = record {
  steps = k.steps ∙ sym s;
  own = k.own;
  coming = subst (λ (u : Option Coming). IfSome u (λ x. x.1 < 3)) (sym n) k.coming;
}

-- ---- what comes for it

pub fresh_is : (n : Coming) (p : ComponentState) → p ≡ fresh_part n → n.1 < 3 → IsFresh p
fresh_is n p e l = record { is = e ∙ ap (λ (q : ComponentState). fresh_part (coming_of q)) (sym e); few = rw e l }

pub begun_with : (p : ComponentState) (k : ℕ) (d : Life) → IsFresh p → d ≡ record p.life { failures = k } → record p { life = d } ≡ fresh_part (p.fitted, k)
begun_with p k d f e = ap (λ (x : Life). record p { life = x }) e ∙ ap (λ (q : ComponentState). record q { life = record q.life { failures = k } }) f.is

pub comes_again : (q p : ComponentState) → IsFresh q → record q { children = p.children } ≡ coming_again (coming_of q) p
comes_again q p f = ap (λ (x : ComponentState). record x { children = p.children }) f.is

pick_true : (b : Bool) (r x y : ComponentState) → true ≡ b → r ≡ x → r ≡ (if b then x else y)
pick_true true r x y e h = h
pick_true false r x y e h = absurd (cc)

pick_false : (b : Bool) (r x y : ComponentState) → false ≡ b → r ≡ y → r ≡ (if b then x else y)
pick_false true r x y e h = absurd (cc)
pick_false false r x y e h = h

pub met_staying : (f : Fitted) (k : ℕ) (p q r : ComponentState) → false ≡ is_replaced f p → q ≡ with_texts f p → r ≡ staying (f, k) q
    → r ≡ (if is_replaced f p then replacing (f, k) (with_texts f p) else staying (f, k) (with_texts f p))
met_staying f k p q r e x i =
    let a : r ≡ staying (f, k) (with_texts f p) = subst (λ (y : ComponentState). r ≡ staying (f, k) y) x i in
    pick_false (is_replaced f p) r (replacing (f, k) (with_texts f p)) (staying (f, k) (with_texts f p)) e a

pub met_replacing : (f g : Fitted) (k : ℕ) (p q r : ComponentState) → true ≡ is_replaced f p → q ≡ with_texts f p → g ≡ f → r ≡ replacing (g, k) q
    → r ≡ (if is_replaced f p then replacing (f, k) (with_texts f p) else staying (f, k) (with_texts f p))
met_replacing f g k p q r e x h i =
    let a : r ≡ replacing (f, k) q = subst (λ (y : Fitted). r ≡ replacing (y, k) q) h i in
    let b : r ≡ replacing (f, k) (with_texts f p) = subst (λ (y : ComponentState). r ≡ replacing (f, k) y) x a in
    pick_true (is_replaced f p) r (replacing (f, k) (with_texts f p)) (staying (f, k) (with_texts f p)) e b

pub meets_by : (f g : Fitted) (k j : ℕ) (p r : ComponentState) → f ≡ g → k ≡ j → false ≡ p.life.gone →
    r ≡ (if is_replaced f p then replacing (f, k) (with_texts f p) else staying (f, k) (with_texts f p)) → r ≡ meeting (g, j) p
meets_by f g k j p r e h i m =
    let a : r ≡ (if is_replaced g p then replacing (g, k) (with_texts g p) else staying (g, k) (with_texts g p))
    = subst (λ (x : Fitted). r ≡ (if is_replaced x p then replacing (x, k) (with_texts x p) else staying (x, k) (with_texts x p))) e m in
    let b : r ≡ (if is_replaced g p then replacing (g, j) (with_texts g p) else staying (g, j) (with_texts g p))
    = subst (λ (n : ℕ). r ≡ (if is_replaced g p then replacing (g, n) (with_texts g p) else staying (g, n) (with_texts g p))) h a in
    pick_false p.life.gone r (coming_again (g, j) p) (if is_replaced g p then replacing (g, j) (with_texts g p) else staying (g, j) (with_texts g p)) i b

pub comes_by : (n : Coming) (p r : ComponentState) → true ≡ p.life.gone → r ≡ coming_again n p → r ≡ meeting n p
comes_by n p r e h = pick_true p.life.gone r (coming_again n p) (if is_replaced n.0 p then replacing n (with_texts n.0 p) else staying n (with_texts n.0 p)) e h
