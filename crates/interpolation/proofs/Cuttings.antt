-- Cuttings of a text into plain pieces and variables.
use Rattle.std.proofs.Common.{◌≡◌, ◌≢◌, ℕ, List, [], ◌∷◌, ◌++◌, refl, sym, ap, ap₂, subst, ◌∙◌, ⊎_elim, append_assoc, append-nil}
use Rattle.std.specs.List.{AllByRecursion}
use Rattle.interpolation.specs.declared.scope.Scope.{Scope}
use Rattle.interpolation.specs.Values.{written, replaced}
use Rattle.interpolation.specs.Variables.{IsInside, HasNoVariable, EndsInside, Part, IsPart, Cutting, joined, IsExpansion, Expanded, ExpandedPrefix}
use Rattle.interpolation.specs.Laws.{IsOneCutting, IsOneText}
use Rattle.interpolation.proofs.Pieces.{Lacks, lacks_prefix, lacks_back, each_neither, last_same, holds_at, overlap, first_same, braces_differ}

-- ---- variables

pub no_open : (w : List ℕ) → IsInside w → Lacks 123 w
no_open w inside x y e = (holds_at (λ (b : ℕ). (b ≢ 123) × (b ≢ 125)) w x y 123 inside.no_brace e).0 refl

pub no_close : (w : List ℕ) → IsInside w → Lacks 125 w
no_close w inside x y e = (holds_at (λ (b : ℕ). (b ≢ 123) × (b ≢ 125)) w x y 125 inside.no_brace e).1 refl

-- a variable, and what follows
opened : (w back : List ℕ) → written w ++ back ≡ 123 ∷ (w ++ (125 ∷ back))
opened w back = ap (λ l. 123 ∷ l) (append_assoc w (125 ∷ []) back)

has : (prefix w back : List ℕ) → prefix ++ (written w ++ back) ≡ prefix ++ (123 ∷ (w ++ (125 ∷ back)))
has prefix w back = ap (λ l. prefix ++ l) (opened w back)

-- a text without `}` has none
pub lacks_variable : (text : List ℕ) → Lacks 125 text → HasNoVariable text
lacks_variable text h prefix w back inside e =
    h (prefix ++ (123 ∷ w)) back (e ∙ has prefix w back ∙ sym (append_assoc prefix (123 ∷ w) (125 ∷ back)))

-- the piece does not end inside of a variable
abbrev pub EndsOutside : List ℕ → Type 0
EndsOutside piece = (prefix w : List ℕ) → EndsInside piece prefix w → ⊥

after_piece : (piece p prefix w back d : List ℕ) → HasNoVariable p → IsInside w → 125 ∷ p ≡ d ++ (123 ∷ (w ++ (125 ∷ back))) → ⊥
after_piece piece p prefix w back [] h inside e = braces_differ (w ++ (125 ∷ back)) p (sym e)
after_piece piece p prefix w back (b ∷ d) h inside e =
    let tail : p ≡ d ++ (123 ∷ (w ++ (125 ∷ back))) = cc in
    h d w back inside (tail ∙ sym (has d w back))

across : (piece p prefix w back d : List ℕ) → Lacks 125 piece → EndsOutside piece → IsInside w → piece ≡ prefix ++ d
    → 123 ∷ (w ++ (125 ∷ back)) ≡ d ++ (125 ∷ p) → ⊥
across piece p prefix w back [] lacking shut inside is e = braces_differ (w ++ (125 ∷ back)) p e
across piece p prefix w back (b ∷ d) lacking shut inside is e =
    let head : b ≡ 123 = cc in
    let tail : w ++ (125 ∷ back) ≡ d ++ (125 ∷ p) = cc in
    let whole : Lacks 125 (prefix ++ (b ∷ d)) = rw (← is) lacking in
    let part : Lacks 125 d = lacks_back 125 (b ∷ []) d (lacks_back 125 prefix (b ∷ d) whole) in
    let same = first_same 125 w back d p (no_close w inside) part tail in
    shut prefix w (record { is = is ∙ ap₂ (λ x y. prefix ++ (x ∷ y)) head (sym same.0); inside = inside })

-- a plain piece stays plain behind a piece and `}` that end no variable
pub no_variable_more : (piece p : List ℕ) → Lacks 125 piece → EndsOutside piece → HasNoVariable p → HasNoVariable ((piece ++ (125 ∷ [])) ++ p)
no_variable_more piece p lacking shut h prefix w back inside e =
    let all : piece ++ (125 ∷ p) ≡ prefix ++ (123 ∷ (w ++ (125 ∷ back))) = sym (append_assoc piece (125 ∷ []) p) ∙ e ∙ has prefix w back in
    ⊎_elim
    (λ (o : (d : List ℕ) × (prefix ≡ piece ++ d) × (125 ∷ p ≡ d ++ (123 ∷ (w ++ (125 ∷ back))))). after_piece piece p prefix w back o.0 h inside o.2)
    (λ (o : (d : List ℕ) × (piece ≡ prefix ++ d) × (123 ∷ (w ++ (125 ∷ back)) ≡ d ++ (125 ∷ p))). across piece p prefix w back o.0 lacking shut inside o.1 o.2)
    (overlap piece (125 ∷ p) prefix (123 ∷ (w ++ (125 ∷ back))) all)

-- ---- prefixes

abbrev part_of : List ℕ → List ℕ → Part
part_of plain inside = record { plain = plain; inside = inside }

abbrev cutting_of : List Part → List ℕ → Cutting
cutting_of parts last = record { parts = parts; last = last }

-- a text without a variable
pub expanded_plain : (scope : Scope) (text : List ℕ) → HasNoVariable text → Expanded scope text text
expanded_plain scope text h =
    (cutting_of [] text, record { cut = record { whole = refl; parts = tt; last = h }; values = refl })

regrouped : (a b text rest : List ℕ) → text ≡ rest → (a ++ b) ++ text ≡ a ++ (b ++ rest)
regrouped a b text rest e = append_assoc a b text ∙ ap (λ l. a ++ (b ++ l)) e

-- a plain piece and a variable
pub prefix_variable : (scope : Scope) (plain w : List ℕ) → HasNoVariable plain → IsInside w
    → ExpandedPrefix scope (plain ++ written w) (plain ++ replaced scope w)
prefix_variable scope plain w h inside text result (cutting, is) = (
  cutting_of (part_of plain w ∷ cutting.parts) cutting.last,
  record {
    cut = record {
      whole = regrouped plain (written w) text (joined written cutting.parts cutting.last) is.cut.whole;
      parts = (record { plain = h; inside = inside }, is.cut.parts);
      last = is.cut.last;
    };
    values = regrouped plain (replaced scope w) result (joined (replaced scope) cutting.parts cutting.last) is.values;
  },
)

abbrev longer : List ℕ → List Part → List ℕ → Cutting
longer prefix [] last = cutting_of [] (prefix ++ last)
longer prefix (part ∷ parts) last = cutting_of (part_of (prefix ++ part.plain) part.inside ∷ parts) last

joined_longer : (instead : List ℕ → List ℕ) (prefix : List ℕ) (parts : List Part) (last text : List ℕ) → text ≡ joined instead parts last
    → prefix ++ text ≡ joined instead (longer prefix parts last).parts (longer prefix parts last).last
joined_longer instead prefix [] last text e = ap (λ l. prefix ++ l) e
joined_longer instead prefix (part ∷ parts) last text e =
    ap (λ l. prefix ++ l) e ∙ sym (append_assoc prefix part.plain (instead part.inside ++ joined instead parts last))

-- a prefix that keeps plain pieces plain
prefix_kept : (scope : Scope) (prefix : List ℕ) → ((p : List ℕ) → HasNoVariable p → HasNoVariable (prefix ++ p)) →
    (text result : List ℕ) (parts : List Part) (last : List ℕ)
    → IsExpansion scope text result (cutting_of parts last) → IsExpansion scope (prefix ++ text) (prefix ++ result) (longer prefix parts last)
prefix_kept scope prefix keeps text result [] last is =
    record {
      cut = record { whole = joined_longer written prefix [] last text is.cut.whole; parts = tt; last = keeps last is.cut.last };
      values = joined_longer (replaced scope) prefix [] last result is.values;
    }
prefix_kept scope prefix keeps text result (part ∷ parts) last is =
    record {
      cut = record {
        whole = joined_longer written prefix (part ∷ parts) last text is.cut.whole;
        parts = (record { plain = keeps part.plain is.cut.parts.0.plain; inside = is.cut.parts.0.inside }, is.cut.parts.1);
        last = is.cut.last;
      };
      values = joined_longer (replaced scope) prefix (part ∷ parts) last result is.values;
    }

-- a piece and `}` that end no variable
pub prefix_plain : (scope : Scope) (piece : List ℕ) → Lacks 125 piece → EndsOutside piece → ExpandedPrefix scope (piece ++ (125 ∷ [])) (piece ++ (125 ∷ []))
prefix_plain scope piece lacking shut text result (cutting, is) =
    let prefix = piece ++ (125 ∷ []) in
    (longer prefix cutting.parts cutting.last, prefix_kept scope prefix (λ p. no_variable_more piece p lacking shut) text result cutting.parts cutting.last is)

-- a piece that ends inside of a variable, and the `}` behind it
pub prefix_ended : (scope : Scope) (piece plain w : List ℕ) → Lacks 125 piece → EndsInside piece plain w →
    ExpandedPrefix scope (piece ++ (125 ∷ [])) (plain ++ replaced scope w)
prefix_ended scope piece plain w lacking ends =
    let whole : Lacks 125 (plain ++ (123 ∷ w)) = rw (← ends.is) lacking in
    let same : plain ++ written w ≡ piece ++ (125 ∷ []) = sym (append_assoc plain (123 ∷ w) (125 ∷ [])) ∙ ap (λ l. l ++ (125 ∷ [])) (sym ends.is) in
    let prefix = prefix_variable scope plain w (lacks_variable plain (lacks_prefix 125 plain (123 ∷ w) whole)) ends.inside in
    subst (λ l. ExpandedPrefix scope l (plain ++ replaced scope w)) same prefix

-- ---- where a piece ends

pub ends_inside : (piece plain w : List ℕ) → Lacks 125 piece → piece ≡ plain ++ (123 ∷ w) → Lacks 123 w → w ≢ [] → EndsInside piece plain w
ends_inside piece plain w lacking is last some =
    let whole : Lacks 125 (plain ++ (123 ∷ w)) = rw (← is) lacking in
    let shut : Lacks 125 w = lacks_back 125 (123 ∷ []) w (lacks_back 125 plain (123 ∷ w) whole) in
    record { is = is; inside = record { some = some; no_brace = each_neither 123 125 w last shut } }

pub ends_outside : (piece : List ℕ) → Lacks 123 piece → EndsOutside piece
ends_outside piece h prefix w ends = h prefix w ends.is

lacks_nothing : (c : ℕ) → Lacks c []
lacks_nothing c [] y e = cc
lacks_nothing c (z ∷ x) y e = cc

-- a piece that ends with `{`
pub ends_empty : (piece plain w : List ℕ) → piece ≡ plain ++ (123 ∷ w) → w ≡ [] → EndsOutside piece
ends_empty piece plain w is empty prefix v ends =
    let mine : piece ≡ plain ++ (123 ∷ []) = is ∙ ap (λ l. plain ++ (123 ∷ l)) empty in
    ends.inside.some (sym (last_same 123 plain [] prefix v (lacks_nothing 123) (no_open v ends.inside) (sym mine ∙ ends.is)))

-- ---- the loop over pieces

pub piece_step : (scope : Scope) (text rest piece after old added new : List ℕ) → ((r : List ℕ) → Expanded scope rest r → Expanded scope text (old ++ r))
    → rest ≡ piece ++ (125 ∷ after) → new ≡ old ++ added → ExpandedPrefix scope (piece ++ (125 ∷ [])) added → (r : List ℕ) → Expanded scope after r →
    Expanded scope text (new ++ r)
piece_step scope text rest piece after old added new so_far is more prefix r h =
    let all : Expanded scope rest (added ++ r) = subst (λ t. Expanded scope t (added ++ r)) (append_assoc piece (125 ∷ []) after ∙ sym is) (prefix after r h) in
    subst (Expanded scope text) (sym (append_assoc old added r) ∙ ap (λ l. l ++ r) (sym more)) (so_far (added ++ r) all)

pub piece_last : (scope : Scope) (text rest old new : List ℕ) → ((r : List ℕ) → Expanded scope rest r → Expanded scope text (old ++ r)) → Lacks 125 rest →
    new ≡ old ++ rest → Expanded scope text new
piece_last scope text rest old new so_far lacking more = subst (Expanded scope text) (sym more) (so_far rest (expanded_plain scope rest
    (lacks_variable rest lacking)))

-- ---- one cutting

behind_close : (w r d v s f : List ℕ) → d ≡ w ++ f → 125 ∷ r ≡ f ++ (123 ∷ (v ++ (125 ∷ s))) → (f : List ℕ) × (d ≡ w ++ (125 ∷ f))
behind_close w r d v s [] is e = absurd (braces_differ (v ++ (125 ∷ s)) r (sym e))
behind_close w r d v s (g ∷ f) is e =
    let head : g ≡ 125 = cc in
    (f, is ∙ ap (λ x. w ++ (x ∷ f)) head)

before_close : (w r d v s f : List ℕ) → IsInside w → w ≡ d ++ f → 123 ∷ (v ++ (125 ∷ s)) ≡ f ++ (125 ∷ r) → ⊥
before_close w r d v s [] inside is e = braces_differ (v ++ (125 ∷ s)) r e
before_close w r d v s (g ∷ f) inside is e =
    let head : g ≡ 123 = cc in
    no_open w inside d f (is ∙ ap (λ x. d ++ (x ∷ f)) head)

-- behind an open variable, whatever comes before a later `{` has the `}`
within : (w r d v s : List ℕ) → IsInside w → w ++ (125 ∷ r) ≡ d ++ (123 ∷ (v ++ (125 ∷ s))) → (f : List ℕ) × (d ≡ w ++ (125 ∷ f))
within w r d v s inside e =
    ⊎_elim
    (λ (o : (f : List ℕ) × (d ≡ w ++ f) × (125 ∷ r ≡ f ++ (123 ∷ (v ++ (125 ∷ s))))). behind_close w r d v s o.0 o.1 o.2)
    (λ (o : (f : List ℕ) × (w ≡ d ++ f) × (123 ∷ (v ++ (125 ∷ s)) ≡ f ++ (125 ∷ r))). absurd (before_close w r d v s o.0 inside o.1 o.2))
    (overlap w (125 ∷ r) d (123 ∷ (v ++ (125 ∷ s))) e)

-- the first variable of two cuttings is one, where the first plain piece of the one is the shorter
ordered : (a w r b v s d : List ℕ) → IsInside w → HasNoVariable b → IsInside v → b ≡ a ++ d → 123 ∷ (w ++ (125 ∷ r)) ≡ d ++ (123 ∷ (v ++ (125 ∷ s)))
    → (a ≡ b) × (w ≡ v) × (r ≡ s)
ordered a w r b v s [] iw hb iv is e =
    let tail : w ++ (125 ∷ r) ≡ v ++ (125 ∷ s) = cc in
    let same = first_same 125 w r v s (no_close w iw) (no_close v iv) tail in
    (sym (is ∙ append-nil a), same.0, same.1)
ordered a w r b v s (c ∷ d) iw hb iv is e =
    let head : c ≡ 123 = cc in
    let tail : w ++ (125 ∷ r) ≡ d ++ (123 ∷ (v ++ (125 ∷ s))) = cc in
    let inner = within w r d v s iw tail in
    absurd (hb a w inner.0 iw (is ∙ ap₂ (λ x y. a ++ (x ∷ y)) head inner.1 ∙ sym (has a w inner.0)))

part_same : (a w r b v s : List ℕ) → HasNoVariable a → IsInside w → HasNoVariable b → IsInside v → a ++ (written w ++ r) ≡ b ++ (written v ++ s)
    → (a ≡ b) × (w ≡ v) × (r ≡ s)
part_same a w r b v s ha iw hb iv e =
    ⊎_elim
    (λ (o : (d : List ℕ) × (b ≡ a ++ d) × (123 ∷ (w ++ (125 ∷ r)) ≡ d ++ (123 ∷ (v ++ (125 ∷ s))))). ordered a w r b v s o.0 iw hb iv o.1 o.2)
    (λ (o : (d : List ℕ) × (a ≡ b ++ d) × (123 ∷ (v ++ (125 ∷ s)) ≡ d ++ (123 ∷ (w ++ (125 ∷ r))))).
    let back = ordered b v s a w r o.0 iv ha iw o.1 o.2 in
    (sym back.0, sym back.1, sym back.2))
    (overlap a (123 ∷ (w ++ (125 ∷ r))) b (123 ∷ (v ++ (125 ∷ s))) (sym (has a w r) ∙ e ∙ has b v s))

joined_same : (ps : List Part) (a : List ℕ) (qs : List Part) (b : List ℕ) → AllByRecursion IsPart ps → HasNoVariable a → AllByRecursion IsPart qs →
    HasNoVariable b
    → joined written ps a ≡ joined written qs b → (ps ≡ qs) × (a ≡ b)
joined_same [] a [] b hp ha hq hb e = (refl, e)
joined_same [] a (q ∷ qs) b hp ha hq hb e = absurd (ha q.plain q.inside (joined written qs b) hq.0.inside e)
joined_same (p ∷ ps) a [] b hp ha hq hb e = absurd (hb p.plain p.inside (joined written ps a) hp.0.inside (sym e))
joined_same (p ∷ ps) a (q ∷ qs) b hp ha hq hb e =
    let first = part_same p.plain p.inside (joined written ps a) q.plain q.inside (joined written qs b) hp.0.plain hp.0.inside hq.0.plain hq.0.inside e in
    let rest = joined_same ps a qs b hp.1 ha hq.1 hb first.2 in
    (ap₂ (λ x y. x ∷ y) (ap₂ part_of first.0 first.1) rest.0, rest.1)

pub one_cutting : IsOneCutting
one_cutting text c d hc hd =
    let same = joined_same c.parts c.last d.parts d.last hc.parts hc.last hd.parts hd.last (sym hc.whole ∙ hd.whole) in
    ap₂ cutting_of same.0 same.1

pub one_text : IsOneText
one_text scope text a b (c, ha) (d, hb) =
    ha.values ∙ ap (λ x. joined (replaced scope) x.parts x.last) (one_cutting text c d ha.cut hb.cut) ∙ sym hb.values
