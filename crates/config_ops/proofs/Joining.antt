-- A join of two objects, from the beginning.
use Rattle.std.proofs.Common.{◌≡◌, ℕ, List, [], ◌∷◌, ◌++◌, Option, Some, None, Ordering, Less, Equal, Greater, nat_cmp, refl, sym, ap, ap₂, ◌∙◌, subst}
use Rattle.std.proofs.Common.{option_map, unwrap_or}
use Rattle.std.specs.Prelude.{IfSome, IfNone}
use Rattle.std.specs.Ordering.{match_ordering}
use Rattle.std.specs.Cmp.Lexicographic.{slice_cmp}
use Rattle.serde_json.specs.Data.{Data, Members, no_members, member, put}
use Rattle.serde_json.specs.Find.{get_member}
use Rattle.tree_core.specs.View.{view, fields_view}
use Rattle.tree_core.specs.Regular.{IsBelowAll, IsOrderly, MembersAreOrderly}
use Rattle.tree_core.proofs.Fields.{Field}
use Rattle.tree_core.proofs.Puts.{below_later}
use Rattle.config_ops.specs.Join.{joined, joined_members, joined_at}
use Rattle.config_ops.specs.Places.{ranks, fields_before, fields_from}
use Rattle.config_ops.proofs.Keys.{itself, same_key, above, below, none_below}

-- ---- the join of the members, for any function of what stands at a key

abbrev pub put_all : (Option Data → Data → Data) → Members → Members → Members
put_all f ts no_members = ts
put_all f ts (member k u us) = put_all f (put k (f (get_member k ts) u) ts) us

abbrev pub join_with : (Data → Data → Data) → Option Data → Data → Data
join_with other old u = unwrap_or (option_map (λ t. joined other t u) old) u

pub joined_members-put_all : (other : Data → Data → Data) (ts us : Members) → joined_members other ts us ≡ put_all (join_with other) ts us
joined_members-put_all other ts no_members = refl
joined_members-put_all other ts (member k u us) = joined_members-put_all other (put k (join_with other (get_member k ts) u) ts) us

-- ---- the one behind the other

abbrev pub behind : Members → Members → Members
behind no_members more = more
behind (member k d ms) more = member k d (behind ms more)

pub view-append : (fs gs : List Field) → fields_view (fs ++ gs) ≡ behind (fields_view fs) (fields_view gs)
view-append [] gs = refl
view-append (f ∷ fs) gs = ap (member f.0 (view f.1)) (view-append fs gs)

pub behind-behind : (ms ns os : Members) → behind (behind ms ns) os ≡ behind ms (behind ns os)
behind-behind no_members ns os = refl
behind-behind (member k d ms) ns os = ap (member k d) (behind-behind ms ns os)

-- a key before all of the second object's stays first
got_later : (k l : List ℕ) (d : Data) (ts : Members) → slice_cmp nat_cmp l k ≡ Greater → get_member l (member k d ts) ≡ get_member l ts
got_later k l d ts is = rw is refl

first_at : (o : Ordering) (f : Option Data → Data → Data) (k l : List ℕ) (d u : Data) (ts us : Members) → slice_cmp nat_cmp l k ≡ o → o ≡ Greater
    → put l (f (get_member l (member k d ts)) u) (member k d ts) ≡ member k d (put l (f (get_member l ts) u) ts)
first_at o f k l d u ts us is greater = ap (λ old. put l (f old u) (member k d ts)) (got_later k l d ts (is ∙ greater)) ∙ rw (is ∙ greater) refl

pub put_all-first : (f : Option Data → Data → Data) (k : List ℕ) (d : Data) (ts us : Members) → IsBelowAll k us →
    put_all f (member k d ts) us ≡ member k d (put_all f ts us)
put_all-first f k d ts no_members h = refl
put_all-first f k d ts (member l u us) h =
    ap (λ ms. put_all f ms us) (first_at _ f k l d u ts us refl (above k l h.0)) ∙ put_all-first f k d (put l (f (get_member l ts) u) ts) us h.1

-- ---- the fields before a key

from_orderly_at : (o : Ordering) (k : List ℕ) (f : Field) (fs : List Field) → MembersAreOrderly (fields_view (f ∷ fs)) →
    MembersAreOrderly (fields_view (fields_from k fs))
    → MembersAreOrderly (fields_view (match_ordering o (f ∷ fs) (f ∷ fs) (fields_from k fs)))
from_orderly_at Less k f fs h later = h
from_orderly_at Equal k f fs h later = h
from_orderly_at Greater k f fs h later = later

pub from_orderly : (k : List ℕ) (fs : List Field) → MembersAreOrderly (fields_view fs) → MembersAreOrderly (fields_view (fields_from k fs))
from_orderly k [] h = tt
from_orderly k (f ∷ fs) h = from_orderly_at (slice_cmp nat_cmp k f.0) k f fs h (from_orderly k fs h.2)

from_not_after_at : (o : Ordering) (k : List ℕ) (f : Field) (fs : List Field) → slice_cmp nat_cmp k f.0 ≡ o → (ranks k (fields_from k fs) ≡ Some Greater → ⊥)
    → ranks k (match_ordering o (f ∷ fs) (f ∷ fs) (fields_from k fs)) ≡ Some Greater → ⊥
from_not_after_at Less k f fs is later e = let same : Some Less ≡ Some Greater = ap Some (sym is) ∙ e in cc
from_not_after_at Equal k f fs is later e = let same : Some Equal ≡ Some Greater = ap Some (sym is) ∙ e in cc
from_not_after_at Greater k f fs is later e = later e

pub from_not_after : (k : List ℕ) (fs : List Field) → ranks k (fields_from k fs) ≡ Some Greater → ⊥
from_not_after k [] e = let no : None ≡ Some Greater = e in cc
from_not_after k (f ∷ fs) e = from_not_after_at (slice_cmp nat_cmp k f.0) k f fs refl (from_not_after k fs) e

before_at : (o : Ordering) (p : Option Data → Data → Data) (k : List ℕ) (u : Data) (us : Members) (f : Field) (fs : List Field) →
    slice_cmp nat_cmp k f.0 ≡ o → IsBelowAll k us
    → (put_all p (fields_view fs) (member k u us) ≡ behind (fields_view (fields_before k fs)) (put_all p (fields_view (fields_from k fs)) (member k u us)))
    → put_all p (fields_view (f ∷ fs)) (member k u us)
    ≡ behind (fields_view (match_ordering o [] [] (f ∷ fields_before k fs))) (put_all p (fields_view (match_ordering o (f ∷ fs) (f ∷ fs) (fields_from k fs)))
    (member k u us))
before_at Less p k u us f fs is h later = refl
before_at Equal p k u us f fs is h later = refl
before_at Greater p k u us f fs is h later =
    let first : slice_cmp nat_cmp f.0 k ≡ Less = below k f.0 is in
    put_all-first p f.0 (view f.1) (fields_view fs) (member k u us) (first, below_later f.0 k us first h) ∙ ap (member f.0 (view f.1)) later

pub put_all-before : (p : Option Data → Data → Data) (k : List ℕ) (u : Data) (us : Members) (fs : List Field) → IsBelowAll k us
    → put_all p (fields_view fs) (member k u us) ≡ behind (fields_view (fields_before k fs)) (put_all p (fields_view (fields_from k fs)) (member k u us))
put_all-before p k u us [] h = refl
put_all-before p k u us (f ∷ fs) h = before_at (slice_cmp nat_cmp k f.0) p k u us f fs refl h (put_all-before p k u us fs h)

-- ---- what stands at the key

found_at : (o : Ordering) (p : Option Data → Data → Data) (k l : List ℕ) (d u : Data) (ms : Members) → slice_cmp nat_cmp k l ≡ o → o ≡ Equal
    → put k (p (get_member k (member l d ms)) u) (member l d ms) ≡ member l (p (Some d) u) ms
found_at o p k l d u ms is equal = rw (is ∙ equal) refl

pub put_all-found : (p : Option Data → Data → Data) (k : List ℕ) (d u : Data) (us : Members) (ms : Members) → IsBelowAll k us
    → put_all p (member k d ms) (member k u us) ≡ member k (p (Some d) u) (put_all p ms us)
put_all-found p k d u us ms h = ap (λ x. put_all p x us) (found_at _ p k k d u ms refl (itself k)) ∙ put_all-first p k (p (Some d) u) ms us h

pub lower : (o : Ordering) → (Some o ≡ Some Equal → ⊥) → (Some o ≡ Some Greater → ⊥) → o ≡ Less
lower Less e g = refl
lower Equal e g = absurd (e refl)
lower Greater e g = absurd (g refl)

put_first : (k : List ℕ) (d : Data) (fs : List Field) → (ranks k fs ≡ Some Equal → ⊥) → (ranks k fs ≡ Some Greater → ⊥) →
    put k d (fields_view fs) ≡ member k d (fields_view fs)
put_first k d [] e g = refl
put_first k d (f ∷ fs) e g = rw (lower (slice_cmp nat_cmp k f.0) e g) refl

pub none_there : (k : List ℕ) (fs : List Field) → MembersAreOrderly (fields_view fs) → (ranks k fs ≡ Some Equal → ⊥) → (ranks k fs ≡ Some Greater → ⊥) →
    get_member k (fields_view fs) ≡ None
none_there k [] h e g = refl
none_there k (f ∷ fs) h e g =
    let less = lower (slice_cmp nat_cmp k f.0) e g in
    rw less (none_below k (fields_view fs) (below_later k f.0 (fields_view fs) less h.0))

pub put_all-absent : (p : Option Data → Data → Data) (k : List ℕ) (u : Data) (us : Members) (fs : List Field) → IsBelowAll k us →
    MembersAreOrderly (fields_view fs)
    → (ranks k fs ≡ Some Equal → ⊥) → (ranks k fs ≡ Some Greater → ⊥)
    → put_all p (fields_view fs) (member k u us) ≡ member k (p None u) (put_all p (fields_view fs) us)
put_all-absent p k u us fs h o e g =
    ap (λ old. put_all p (put k (p old u) (fields_view fs)) us) (none_there k fs o e g)
    ∙ ap (λ ms. put_all p ms us) (put_first k (p None u) fs e g)
    ∙ put_all-first p k (p None u) (fields_view fs) us h

-- ---- one key of the second object

abbrev pub Found : List ℕ → List Field → Option Field → List Field → Type 0
Found k rest None later = (later ≡ fields_from k rest) × (ranks k (fields_from k rest) ≡ Some Equal → ⊥)
Found k rest (Some g) later = (fields_from k rest ≡ g ∷ later) × (slice_cmp nat_cmp k g.0 ≡ Equal)

pub later_orderly : (k : List ℕ) (rest : List Field) (found : Option Field) (later : List Field) → Found k rest found later →
    MembersAreOrderly (fields_view rest) → MembersAreOrderly (fields_view later)
later_orderly k rest None later is h = subst (λ fs. MembersAreOrderly (fields_view fs)) (sym is.0) (from_orderly k rest h)
later_orderly k rest (Some g) later is h =
    let all : MembersAreOrderly (fields_view (g ∷ later)) = subst (λ fs. MembersAreOrderly (fields_view fs)) is.0 (from_orderly k rest h) in all.2

pub found_fits : (k : List ℕ) (rest : List Field) (found : Option Field) (later : List Field) → Found k rest found later → MembersAreOrderly (fields_view rest)
    → IfSome found (λ f. (f.0 ≡ k) × IsOrderly (view f.1))
found_fits k rest None later is h = tt
found_fits k rest (Some g) later is h =
    let all : MembersAreOrderly (fields_view (g ∷ later)) = subst (λ fs. MembersAreOrderly (fields_view fs)) is.0 (from_orderly k rest h) in
    (sym (same_key k g.0 is.1), all.1)

pub found_orderly : (k : List ℕ) (rest : List Field) (found : Option Field) (later : List Field) → Found k rest found later →
    MembersAreOrderly (fields_view rest) → IfSome found (λ f. IsOrderly (view f.1))
found_orderly k rest None later is h = tt
found_orderly k rest (Some g) later is h = (found_fits k rest (Some g) later is h).1

pub at_key : (p : Option Data → Data → Data) (k : List ℕ) (u : Data) (us : Members) (rest : List Field) (found : Option Field) (later : List Field) →
    IsBelowAll k us → MembersAreOrderly (fields_view rest)
    → Found k rest found later
    → put_all p (fields_view (fields_from k rest)) (member k u us) ≡ member k (p (option_map (λ f. view f.1) found) u) (put_all p (fields_view later) us)
at_key p k u us rest None later b h is =
    put_all-absent p k u us (fields_from k rest) b (from_orderly k rest h) is.1 (from_not_after k rest)
    ∙ ap (λ fs. member k (p None u) (put_all p (fields_view fs) us)) (sym is.0)
at_key p k u us rest (Some g) later b h is =
    let named : k ≡ g.0 = same_key k g.0 is.1 in
    ap (λ fs. put_all p (fields_view fs) (member k u us)) is.0
    ∙ ap (λ x. put_all p (member x (view g.1) (fields_view later)) (member k u us)) (sym named)
    ∙ put_all-found p k (view g.1) u us (fields_view later) b

joined_value : (other : Data → Data → Data) (old : Option Data) (u d : Data) → Some d ≡ joined_at other old (Some u) → join_with other old u ≡ d
joined_value other None u d is = cc
joined_value other (Some t) u d is = cc

pub next_key : (other : Data → Data → Data) (k : List ℕ) (u : Data) (us : Members) (rest : List Field) (found : Option Field) (later : List Field)
    (new : Field) → IsBelowAll k us → MembersAreOrderly (fields_view rest)
    → Found k rest found later → new.0 ≡ k → Some (view new.1) ≡ joined_at other (option_map (λ f. view f.1) found) (Some u)
    → joined_members other (fields_view rest) (member k u us) ≡ behind (fields_view (fields_before k rest)) (member new.0 (view new.1) (joined_members other
    (fields_view later) us))
next_key other k u us rest found later new b h is named value =
    let p = join_with other in
    joined_members-put_all other (fields_view rest) (member k u us)
    ∙ put_all-before p k u us rest b
    ∙ ap (behind (fields_view (fields_before k rest))) (
    at_key p k u us rest found later b h is
    ∙ ap₂ (λ x d. member x d (put_all p (fields_view later) us)) (sym named) (joined_value other _ u (view new.1) value)
    ∙ ap (member new.0 (view new.1)) (sym (joined_members-put_all other (fields_view later) us)))

-- what is done grows by the fields before the key and the new field
pub done_grows : (done before : List Field) (new : Field) (more : Members) → behind (fields_view done) (behind (fields_view before) (member new.0
    (view new.1) more)) ≡ behind (fields_view ((done ++ before) ++ new ∷ [])) more
done_grows done before new more =
    sym (behind-behind (fields_view done) (fields_view before) (member new.0 (view new.1) more))
    ∙ ap (λ ms. behind ms (member new.0 (view new.1) more)) (sym (view-append done before))
    ∙ sym (behind-behind (fields_view (done ++ before)) (member new.0 (view new.1) no_members) more)
    ∙ ap (λ ms. behind ms more) (sym (view-append (done ++ before) (new ∷ [])))

pub found_is : (k : List ℕ) (rest from later : List Field) (found : Option Field) → IfSome found (λ f. (from ≡ f ∷ later) × (slice_cmp nat_cmp k f.0 ≡ Equal))
    → IfNone found ((later ≡ from) × (ranks k from ≡ Some Equal → ⊥)) → from ≡ fields_from k rest → Found k rest found later
found_is k rest from later None some none is = (none.0 ∙ is, subst (λ fs. ranks k fs ≡ Some Equal → ⊥) is none.1)
found_is k rest from later (Some g) some none is = (sym is ∙ some.0, some.1)
