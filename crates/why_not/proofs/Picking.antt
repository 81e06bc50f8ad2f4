-- Picking an open name.
use Rattle.std.proofs.Common.{◌≡◌, ℕ, ◌+◌, ◌<◌, List, [], ◌∷◌, ◌++◌, length, get_or, take, map, Option, Some, None, sym, ap, ◌∙◌, append_assoc, subst}
use Rattle.std.specs.List.{Contains}
use Rattle.std.proofs.lemmas.List.{append-nil, map-append, take_more}
use Rattle.std.proofs.lemmas.List.Elements.{Contains-append_left, Contains-push}
use Rattle.nuc_base.proofs.Lists.{in_nil}
use Rattle.recipe_reader.specs.Members.{Need, Member}
use Rattle.recipe_reader.specs.Sets.{needs_of, needed_names, required_names, IsTaken, IsUpTo, IsLeastUntaken}
use Rattle.recipe_reader.proofs.Required.{first_taken, first_none, first_changes, first_stays}
use Rattle.why_not.specs.Picks.{IsPick}
use Rattle.why_not.specs.declared.choosing.Form.{Form}
use Rattle.why_not.specs.declared.choosing.Form.TheVariants.{Plain}
use Rattle.why_not.specs.declared.choosing.Pick.{Pick}

module _ (ms : List Member) (form : Form) (taken : List ℕ) where
  pub pick_none : IsPick ms form taken [] None
  pick_none = λ n i. absurd (in_nil n i)

  pub pick_taken : (names : List (List ℕ)) (n : List ℕ) (best : Option Pick) → IsTaken ms taken n → IsPick ms form taken names best →
      IsPick ms form taken (names ++ n ∷ []) best
  pick_taken names n None t h = first_taken ms taken names None n t h
  pick_taken names n (Some o) t h = record {
    listed = Contains-append_left names (n ∷ []) o.name.now h.listed;
    untaken = h.untaken;
    uncounted = h.uncounted;
    least = λ e. first_taken ms taken names (Some o.name.now) n t (h.least e);
  }

  module _ (names : List (List ℕ)) (n : List ℕ) (p : Pick) (same : p.name.now ≡ n) (out : IsTaken ms taken n → ⊥) (zero : form ≡ Plain → p.live ≡ 0) where
    open_here : IsTaken ms taken p.name.now → ⊥
    open_here t = out (subst (IsTaken ms taken) same t)

    listed_here : Contains (names ++ n ∷ []) p.name.now
    listed_here = subst (Contains (names ++ n ∷ [])) (sym same) (Contains-push names n)

    pub pick_first : IsPick ms form taken names None → IsPick ms form taken (names ++ n ∷ []) (Some p)
    pick_first h = record {
      listed = listed_here;
      untaken = open_here;
      uncounted = zero;
      least = λ e. subst (IsLeastUntaken ms taken (names ++ n ∷ [])) (sym same) (first_none ms taken names n out h);
    }

    pub pick_changes : (o : Pick) → (p.live ≡ o.live → IsUpTo p.name.now o.name.now) → IsPick ms form taken names (Some o) →
        IsPick ms form taken (names ++ n ∷ []) (Some p)
    pick_changes o le h = record {
      listed = listed_here;
      untaken = open_here;
      uncounted = zero;
      least = λ e. subst (IsLeastUntaken ms taken (names ++ n ∷ [])) (sym same)
          (first_changes ms taken names o.name.now n out (subst (λ m. IsUpTo m o.name.now) same (le (zero e ∙ sym (h.uncounted e)))) (h.least e));
    }

    pub pick_stays : (o : Pick) → (p.live ≡ o.live → IsUpTo o.name.now p.name.now) → IsPick ms form taken names (Some o) →
        IsPick ms form taken (names ++ n ∷ []) (Some o)
    pick_stays o ge h = record {
      listed = Contains-append_left names (n ∷ []) o.name.now h.listed;
      untaken = h.untaken;
      uncounted = h.uncounted;
      least = λ e. first_stays ms taken names o.name.now n (subst (IsUpTo o.name.now) same (ge (zero e ∙ sym (h.uncounted e)))) (h.least e);
    }

-- ---- the names so far

names_more : {X : Type 0} (f : X → Need) (xs : List X) (i : ℕ) (d : X) → i < length xs →
    map (λ (d : Need). d.name) (map f (take (i + 1) xs)) ≡ map (λ (d : Need). d.name) (map f (take i xs)) ++ (f (get_or xs i d)).name ∷ []
names_more f xs i d lt =
    ap (λ l. map (λ (d : Need). d.name) (map f l)) (take_more xs i d lt)
    ∙ ap (map (λ (d : Need). d.name)) (map-append f (take i xs) (get_or xs i d ∷ []))
    ∙ map-append (λ (d : Need). d.name) (map f (take i xs)) (f (get_or xs i d) ∷ [])

pub names_next : {X : Type 0} (f : X → Need) (xs : List X) (i : ℕ) (x : X) → i < length xs → x ≡ get_or xs i x →
    map (λ (d : Need). d.name) (map f (take i xs)) ++ (f x).name ∷ [] ≡ map (λ (d : Need). d.name) (map f (take (i + 1) xs))
names_next f xs i x lt is = ap (λ y. map (λ (d : Need). d.name) (map f (take i xs)) ++ (f y).name ∷ []) is ∙ sym (names_more f xs i x lt)

needed_push : (ms : List Member) (ps : List ℕ) (p : ℕ) → needed_names ms (ps ++ p ∷ []) ≡ needed_names ms ps ++ map (λ (d : Need). d.name) (needs_of ms p)
needed_push ms [] p = append-nil (map (λ (d : Need). d.name) (needs_of ms p))
needed_push ms (q ∷ ps) p =
    ap (λ l. map (λ (d : Need). d.name) (needs_of ms q) ++ l) (needed_push ms ps p)
    ∙ sym (append_assoc (map (λ (d : Need). d.name) (needs_of ms q)) (needed_names ms ps) (map (λ (d : Need). d.name) (needs_of ms p)))

module _ (ms : List Member) (wanted : List Need) where
  pub required_none_taken : map (λ (w : Need). w.name) wanted ≡ required_names ms wanted []
  required_none_taken = sym (append-nil (map (λ (w : Need). w.name) wanted))

  pub required_one_more : (taken : List ℕ) (i : ℕ) → i < length taken →
      required_names ms wanted (take i taken) ++ map (λ (d : Need). d.name) (needs_of ms (get_or taken i 0)) ≡ required_names ms wanted (take (i + 1) taken)
  required_one_more taken i lt =
      append_assoc (map (λ (w : Need). w.name) wanted) (needed_names ms (take i taken)) (map (λ (d : Need). d.name) (needs_of ms (get_or taken i 0)))
      ∙ ap (λ l. map (λ (w : Need). w.name) wanted ++ l)
      (sym (needed_push ms (take i taken) (get_or taken i 0)) ∙ ap (needed_names ms) (sym (take_more taken i 0 lt)))
