-- The layout of each record: what is read is spelled so, and what is spelled so is read.
use Rattle.std.proofs.Common.{◌≡◌, ℕ, zero, suc, ◌^◌, ◌<◌, ℤ, Bool, true, false, List, [], ◌∷◌, ◌++◌, Option, Some, None, refl, sym, ap, subst, ◌∙◌, arith}
use Rattle.std.proofs.Common.{inl, inr}
use Rattle.std.specs.Prelude.{◌⊎◌, ◌==◌, not, is_some, if◌then◌else◌, FitsSigned, IsUtf8, IsSomeAnd, ⊤}
use Rattle.std.specs.Option.{option_map_or}
use Rattle.std.specs.Str.{is_utf8}
use Rattle.std.specs.Int.{w32, cast_signed, cast_unsigned}
use Rattle.std.proofs.lemmas.Bool.{eqb-true}
use Rattle.std.proofs.Math.Dec.{eqb-suc-zero}
use Rattle.std.proofs.lemmas.Int.{of_z-to_z, to_z-of_z}
use Rattle.std.proofs.Math.Facts.{sfits_to_z, Fits-of_lt, Fits-of_z, Fits-lt-pow}
use Rattle.std.proofs.lemmas.List.{append-nil}
use Rattle.std.proofs.lemmas.Str.{IsUtf8-from_is_utf8, is_utf8-from_IsUtf8}
use Rattle.serde_json.specs.Data.{Data}
use Rattle.serde_json.specs.Written.{compact_text}
use Rattle.tree_core.proofs.Orderly.{read_orderly}
use Rattle.tree_core.proofs.ReadsBack.{reads_back}
use Rattle.tree_core.proofs.Fields.{no_float}
use Rattle.nuc_base.specs.Names.{IsName, IsLabel}
use Rattle.npm_ranges.specs.Ranges.{IsRange}
use Rattle.npm_ranges.specs.Versions.{IsVersion}
use Rattle.tree_core.specs.Regular.{IsRegular}
use Rattle.tree_core.proofs.TextUtf8.{IsUtf8-compact_text}
use Rattle.records.specs.Codec.{Codec, ◌>>=◌, ◌&◌, only_if, number_at, list_of, whole}
use Rattle.records.specs.Layout as layout
use Rattle.records.specs.Layout.{tree_of, Any, IsShort, IsShortTree, is_label, is_name, is_version, is_range}
use Rattle.records.proofs.Leaves.{bind_some, some_is, if_some, label_says, label_test, name_says, name_test, version_says, version_test, range_says}
use Rattle.records.proofs.Leaves.{range_test, tree_found, tree_says}
use Rattle.nuc_base.specs.declared.kinds.Exit.{Exit}
use Rattle.nuc_base.specs.declared.kinds.Exit.TheVariants as exits
use Rattle.nuc_base.specs.declared.kinds.Step.{Step}
use Rattle.nuc_base.specs.declared.kinds.Step.TheVariants as steps
use Rattle.nuc_base.specs.declared.kinds.Policy.{Policy}
use Rattle.nuc_base.specs.declared.kinds.Policy.TheVariants as policies
use Rattle.nuc_base.specs.declared.kinds.Outcome.{Outcome}
use Rattle.nuc_base.specs.declared.kinds.Outcome.TheVariants as outcomes
use Rattle.records.specs.Stored.{Plan, Record, Genesis, Accepted, Turned, Grouped, Kept}
use Rattle.records.specs.declared.record.Group.{Group}
use Rattle.records.specs.declared.record.Requirement.{Requirement}
use Rattle.records.specs.Layout.{Kind, kinds, label, requirement, revision, Wanted, wanted, wanted_of, plan_of, record_of, record_spelled, RecordFits}
use Rattle.records.specs.Layout.{IsWritable, Spelled}
use Rattle.records.proofs.Codecs.{IsBytes, IsBytes-rest, Takes, number_is, long_is, IsCodec, fixed_is, string_is, texts_is, those_is, both, as_a_is}
use Rattle.records.proofs.Codecs.{nothing_is, byte_is, list_is}

ruled_says : (test : List ℕ → Bool) (Rule : List ℕ → Type 0) → ((t : List ℕ) → test t ≡ true → Rule t) → (t x : List ℕ) → only_if (test t) t ≡ Some x →
    (x ≡ t) × Rule x
ruled_says test Rule is_modelled t x e =
    let a = if_some (test t) (Some t) x e in
    let one = some_is t x a.1 in
    (sym one, subst Rule one (is_modelled t a.0))

pub text_is : IsCodec layout.text
text_is = texts_is (λ t. t) (λ t. only_if (is_utf8 t) t) IsUtf8 IsShort (ruled_says is_utf8 IsUtf8 IsUtf8-from_is_utf8) (λ t h. rw (is_utf8-from_IsUtf8 t h)
    refl) (λ t h short. short)

pub label_is : IsCodec layout.label
label_is = texts_is (λ t. t) (λ t. only_if (is_label t) t) IsLabel Any (ruled_says is_label IsLabel label_says) (λ t h. rw (label_test t h) refl)
    (λ t h short. tt)

pub name_is : IsCodec layout.name
name_is = texts_is (λ t. t) (λ t. only_if (is_name t) t) IsName Any (ruled_says is_name IsName name_says) (λ t h. rw (name_test t h) refl) (λ t h short. tt)

pub version_is : IsCodec layout.version
version_is = texts_is (λ t. t) (λ t. only_if (is_version t) t) IsVersion Any (ruled_says is_version IsVersion version_says) (λ t h. rw (version_test t h)
    refl) (λ t h short. tt)

pub range_is : IsCodec layout.range
range_is = texts_is (λ t. t) (λ t. only_if (is_range t) t) IsRange Any (ruled_says is_range IsRange range_says) (λ t h. rw (range_test t h) refl)
    (λ t h short. tt)

tree_text : (t : List ℕ) (d : Data) → tree_of t ≡ Some d → (compact_text d ≡ t) × IsRegular d
tree_text t d e =
    let h = tree_says t d e in
    (h.text, record { orderly = read_orderly t d h.json.value h.no_float; shallow = h.shallow; utf8 = h.utf8 })

tree_again : (d : Data) → IsRegular d → tree_of (compact_text d) ≡ Some d
tree_again d h = tree_found (compact_text d) d (record {
  json = record { utf8 = IsUtf8-compact_text d h.orderly h.utf8; value = reads_back d h.orderly (omega (arith, h.shallow)) };
  shallow = h.shallow;
  no_float = no_float d h.orderly;
  utf8 = h.utf8;
  text = refl;
})

pub tree_is : IsCodec layout.tree
tree_is = texts_is compact_text tree_of IsRegular IsShortTree tree_text tree_again (λ d h short. record { regular = h; short = short })

-- ---- small values

-- a test of an if-chain held, or the chain goes on
branch : {A : Type 0} (b k : ℕ) (x y : Option A) (r : A) → (if b == k then x else y) ≡ Some r → ((b ≡ k) × (x ≡ Some r)) ⊎ (y ≡ Some r)
branch {A} b k x y r e = chosen (b == k) refl e where
  chosen : (t : Bool) → (b == k) ≡ t → (if t then x else y) ≡ Some r → ((b ≡ k) × (x ≡ Some r)) ⊎ (y ≡ Some r)
  chosen true is e = inl (eqb-true b k is, e)
  chosen false is e = inr e

-- the first entry of a table of bytes
row : {A : Type 0} (tag : A → ℕ) (b k : ℕ) (x r : A) → tag x ≡ k → (b ≡ k) × (◌≡◌ {A = Option A} (Some x) (Some r)) → tag r ≡ b
row tag b k x r is p = ap tag (sym (some_is x r p.1)) ∙ is ∙ sym p.0

step_says : (b : ℕ) (x : Step) → layout.step_of b ≡ Some x → layout.step_byte x ≡ b
step_says b x e =
    elim (branch b 1 (Some steps.Install) _ x e) [
      | inl p ↦ row layout.step_byte b 1 steps.Install x refl p
      | inr e ↦
          elim (branch b 2 (Some steps.Run) _ x e) [
            | inl p ↦ row layout.step_byte b 2 steps.Run x refl p
            | inr e ↦
                elim (branch b 3 (Some steps.Startup) _ x e) [
                  | inl p ↦ row layout.step_byte b 3 steps.Startup x refl p
                  | inr e ↦
                      elim (branch b 4 (Some steps.Shutdown) _ x e) [
                        | inl p ↦ row layout.step_byte b 4 steps.Shutdown x refl p
                        | inr e ↦
                            elim (branch b 5 (Some steps.Recover) _ x e) [
                              | inl p ↦ row layout.step_byte b 5 steps.Recover x refl p
                              | inr e ↦
                                  elim (branch b 6 (Some steps.Bootstrap) None x e) [
                                    | inl p ↦ row layout.step_byte b 6 steps.Bootstrap x refl p
                                    | inr e ↦
                                        absurd cc
                                  ]
                            ]
                      ]
                ]
          ]
    ]

step_found : (x : Step) → layout.step_of (layout.step_byte x) ≡ Some x
step_found steps.Install = refl
step_found steps.Run = refl
step_found steps.Startup = refl
step_found steps.Shutdown = refl
step_found steps.Recover = refl
step_found steps.Bootstrap = refl

pub step_is : IsCodec layout.step
step_is = byte_is layout.step_byte layout.step_of step_says step_found

policy_says : (b : ℕ) (x : Policy) → layout.policy_of b ≡ Some x → layout.policy_byte x ≡ b
policy_says b x e =
    elim (branch b 0 (Some policies.Rollback) _ x e) [
      | inl p ↦ row layout.policy_byte b 0 policies.Rollback x refl p
      | inr e ↦
          elim (branch b 1 (Some policies.DoNothing) None x e) [ inl p ↦ row layout.policy_byte b 1 policies.DoNothing x refl p | inr e ↦ absurd cc ]
    ]

policy_found : (x : Policy) → layout.policy_of (layout.policy_byte x) ≡ Some x
policy_found policies.Rollback = refl
policy_found policies.DoNothing = refl

pub policy_is : IsCodec layout.policy
policy_is = byte_is layout.policy_byte layout.policy_of policy_says policy_found

outcome_says : (b : ℕ) (x : Outcome) → layout.outcome_of b ≡ Some x → layout.outcome_byte x ≡ b
outcome_says b x e =
    elim (branch b 1 (Some outcomes.Successful) _ x e) [
      | inl p ↦ row layout.outcome_byte b 1 outcomes.Successful x refl p
      | inr e ↦
          elim (branch b 2 (Some outcomes.RollbackComplete) _ x e) [
            | inl p ↦ row layout.outcome_byte b 2 outcomes.RollbackComplete x refl p
            | inr e ↦
                elim (branch b 3 (Some outcomes.RollbackNotRequested) _ x e) [
                  | inl p ↦ row layout.outcome_byte b 3 outcomes.RollbackNotRequested x refl p
                  | inr e ↦
                      elim (branch b 4 (Some outcomes.UnableToRollback) None x e) [
                        | inl p ↦ row layout.outcome_byte b 4 outcomes.UnableToRollback x refl p
                        | inr e ↦ absurd cc
                      ]
                ]
          ]
    ]

outcome_found : (x : Outcome) → layout.outcome_of (layout.outcome_byte x) ≡ Some x
outcome_found outcomes.Successful = refl
outcome_found outcomes.RollbackComplete = refl
outcome_found outcomes.RollbackNotRequested = refl
outcome_found outcomes.UnableToRollback = refl

pub outcome_is : IsCodec layout.outcome
outcome_is = byte_is layout.outcome_byte layout.outcome_of outcome_says outcome_found

-- ---- exits

code_takes : (bytes : List ℕ) (p : ℤ × List ℕ) → IsBytes bytes → layout.code.at bytes ≡ Some p → Takes bytes (layout.code.spell p.0) p.1 × FitsSigned w32 p.0
code_takes bytes p fits e =
    let f = bind_some (number_at bytes) (λ n. Some (cast_signed w32 n.0, n.1)) p e in
    let t = number_is.takes bytes f.0 fits f.1 in
    let made : ℤ × List ℕ = (cast_signed w32 f.0.0, f.0.1) in
    subst (λ (z : ℤ × List ℕ). Takes bytes (layout.code.spell z.0) z.1 × FitsSigned w32 z.0) (some_is made p f.2)
    (rw (of_z-to_z w32 f.0.0 t.1) t.0, sfits_to_z {w = w32} (Fits-of_lt {w = w32} t.1))

pub code_is : IsCodec layout.code
code_is = record {
  takes = code_takes;
  again = λ z rest fits.
      let lt : cast_unsigned w32 z < 2 ^ 32 = Fits-lt-pow (Fits-of_z {w = w32} fits) in
      rw (number_is.again (cast_unsigned w32 z) rest lt, to_z-of_z w32 z fits) refl;
  asks = λ z fits. tt;
}

one_byte : {A : Type 0} (spell : A → List ℕ) (Fits : A → Type 0) (b k : ℕ) (rest : List ℕ) (x : A) (p : A × List ℕ) → IsBytes (b ∷ rest) → spell x ≡ k ∷ [] →
    Fits x
    → (b ≡ k) × (◌≡◌ {A = Option (A × List ℕ)} (Some (x, rest)) (Some p)) → Takes (b ∷ rest) (spell p.0) p.1 × Fits p.0
one_byte {A} spell Fits b k rest x p fits is good h =
    let one : Takes (b ∷ rest) (spell x) rest × Fits x = (record { parts = rw is (ap (λ n. n ∷ rest) h.0); rest_fits = IsBytes-rest b rest fits }, good) in
    subst (λ (q : A × List ℕ). Takes (b ∷ rest) (spell q.0) q.1 × Fits q.0) (some_is (x, rest) p h.1) one

exit_takes : (bytes : List ℕ) (p : Exit × List ℕ) → IsBytes bytes → layout.exit_at bytes ≡ Some p → Takes bytes (layout.exit_spelled p.0) p.1 ×
    layout.ExitFits p.0
unfolding layout.exit_at
exit_takes [] p fits e = absurd cc
exit_takes (b ∷ rest) p fits e =
    elim (branch b 0 (layout.code.at rest >>= λ z. Some (exits.Code z.0, z.1)) _ p e) [
      | inl h ↦ code_exit b rest p fits h
      | inr e ↦
          elim (branch b 1 (Some (exits.Signal, rest)) _ p e) [
            | inl h ↦ one_byte layout.exit_spelled layout.ExitFits b 1 rest exits.Signal p fits refl tt h
            | inr e ↦
                elim (branch b 2 (Some (exits.TimedOut, rest)) _ p e) [
                  | inl h ↦ one_byte layout.exit_spelled layout.ExitFits b 2 rest exits.TimedOut p fits refl tt h
                  | inr e ↦
                      elim (branch b 3 (Some (exits.NotStarted, rest)) _ p e) [
                        | inl h ↦ one_byte layout.exit_spelled layout.ExitFits b 3 rest exits.NotStarted p fits refl tt h
                        | inr e ↦
                            elim (branch b 4 (Some (exits.Lost, rest)) None p e) [
                              | inl h ↦ one_byte layout.exit_spelled layout.ExitFits b 4 rest exits.Lost p
                                  fits refl tt h
                              | inr e ↦ absurd cc
                            ]
                      ]
                ]
          ]
    ]
  where
    code_exit : (b : ℕ) (rest : List ℕ) (p : Exit × List ℕ) → IsBytes (b ∷ rest) → (b ≡ 0) ×
        ((layout.code.at rest >>= λ z. Some (exits.Code z.0, z.1)) ≡ Some p)
        → Takes (b ∷ rest) (layout.exit_spelled p.0) p.1 × layout.ExitFits p.0
    code_exit b rest p fits h =
        let f = bind_some (layout.code.at rest) (λ z. Some (exits.Code z.0, z.1)) p h.1 in
        let t = code_takes rest f.0 (IsBytes-rest b rest fits) f.1 in
        let made : Exit × List ℕ = (exits.Code f.0.0, f.0.1) in
        let one : Takes (b ∷ rest) (0 ∷ layout.code.spell f.0.0) f.0.1 × FitsSigned w32 f.0.0 =
        (record { parts = rw h.0 (ap (λ (t : List ℕ). 0 ∷ t) t.0.parts); rest_fits = t.0.rest_fits }, t.1) in
        subst (λ (q : Exit × List ℕ). Takes (b ∷ rest) (layout.exit_spelled q.0) q.1 × layout.ExitFits q.0) (some_is made p f.2) one

exit_again : (x : Exit) (rest : List ℕ) → layout.ExitFits x → layout.exit_at (layout.exit_spelled x ++ rest) ≡ Some (x, rest)
unfolding layout.exit_at
exit_again (exits.Code z) rest fits = rw (code_is.again z rest fits) refl
exit_again exits.Signal rest fits = refl
exit_again exits.TimedOut rest fits = refl
exit_again exits.NotStarted rest fits = refl
exit_again exits.Lost rest fits = refl

pub exit_is : IsCodec layout.exit
exit_is = record { takes = exit_takes; again = exit_again; asks = λ e fits. tt }

-- ---- structures

pub origin_is : IsCodec layout.origin
origin_is = as_a_is _ _ _ (λ x. refl) (λ y. refl) (both _ _ text_is (both _ _ label_is (both _ _ version_is (both _ _ label_is label_is))))

pub held_is : IsCodec layout.held
held_is = as_a_is _ _ _ (λ x. refl) (λ y. refl) (both _ _ label_is (fixed_is 32))

pub requirement_is : IsCodec layout.requirement
requirement_is = as_a_is _ _ _ (λ x. refl) (λ y. refl) (both _ _ name_is range_is)

pub item_is : IsCodec layout.item
item_is = as_a_is _ _ _ (λ x. refl) (λ y. refl) (both _ _ name_is (both _ _ version_is (both _ _ string_is (both _ _ tree_is (list_is _ held_is)))))

above_zero : (n : ℕ) → not (n == 0) ≡ true → 0 < n
above_zero zero e = absurd cc
above_zero (suc n) e = omega arith

pub not_zero : (n : ℕ) → 0 < n → (n == 0) ≡ false
not_zero zero lt = absurd (omega (arith, lt))
not_zero (suc n) lt = eqb-suc-zero n

pub revision_is : IsCodec layout.revision
revision_is = those_is _ _ _ above_zero (λ n lt. rw (not_zero n lt) refl) long_is

pub wanted_is : IsCodec layout.wanted
wanted_is = both _ _ policy_is (both _ _ (list_is _ requirement_is) (both _ _ (list_is _ item_is) (list_is _ name_is)))

-- ---- records

whole_is : {A : Type 0} (o : Option (A × List ℕ)) (x : A) → whole o ≡ Some x → o ≡ Some (x, [])
whole_is None x e = absurd cc
whole_is (Some (y, [])) x e = ap (λ z. Some (z, [])) (some_is y x e)
whole_is (Some (y, b ∷ rest)) x e = absurd cc

whole_again : {A : Type 0} (c : Codec A) → IsCodec c → (make : A → Record) (x : A) → c.Fits x → layout.all_as c make (c.spell x) ≡ Some (make x)
whole_again c law make x fits = let e : c.at (c.spell x) ≡ Some (x, []) = ap c.at (sym (append-nil (c.spell x))) ∙ law.again x [] fits in rw e refl

record IsKind (k : Kind) : Type 0 where
  takes : (rest : List ℕ) (r : Record) → IsBytes rest → k.of rest ≡ Some r → Spelled (k.first ∷ rest) r
  again : (r : Record) → k.Fits r → record_of (k.spell r) ≡ Some (k.made r)

-- A kind is found by its first byte, and its records by their fields.
kind_is : {A : Type 0} (first : ℕ) (c : Codec A) (make : A → Record) (value : Record → Option A) → IsCodec c
    → ((x : A) → c.Fits x → Spelled (first ∷ c.spell x) (make x)) → ((rest : List ℕ) → record_of (first ∷ rest) ≡ layout.all_as c make rest) →
    IsKind (layout.kind first c make value)
kind_is {A} first c make value law spells reads = record {
  takes = λ rest r fits e.
      let f = bind_some (whole (c.at rest)) (λ x. Some (make x)) r e in
      let t = law.takes rest (f.0, []) fits (whole_is (c.at rest) f.0 f.1) in
      let same : first ∷ c.spell f.0 ≡ first ∷ rest = ap (λ (t : List ℕ). first ∷ t) (sym (t.0.parts ∙ append-nil (c.spell f.0))) in
      subst (Spelled (first ∷ rest)) (some_is (make f.0) r f.2) (subst (λ (bytes : List ℕ). Spelled bytes (make f.0)) same (spells f.0 t.1));
  again = λ r fits. again_of r (value r) fits;
} where
  again_of : (r : Record) (o : Option A) → IsSomeAnd o c.Fits → record_of (first ∷ option_map_or c.spell o []) ≡ Some (option_map_or make o r)
  again_of r None fits = absurd fits
  again_of r (Some x) fits = reads (c.spell x) ∙ whole_again c law make x fits

abbrev EachIsKind : List Kind → Type 0
EachIsKind [] = ⊤
EachIsKind (k ∷ ks) = IsKind k × EachIsKind ks

record AreKinds (ks : List Kind) : Type 0 where
  each : EachIsKind ks

infixr 10 ◌⊕◌
◌⊕◌ : {k : Kind} {ks : List Kind} → IsKind k → AreKinds ks → AreKinds (k ∷ ks)
is ⊕ are = record { each = (is, are.each) }

no_more : AreKinds []
no_more = record { each = tt }

-- ---- revisions

abbrev pub plain_plan : Plan → List ℕ × (List ℕ × Wanted)
plain_plan p = (p.id, (p.group, wanted_of p))

abbrev pub plain_group : Group → List ℕ × List Requirement
plain_group g = (g.arn, g.requirements)

abbrev pub revised_group : Group → List ℕ × (ℕ × List Requirement)
revised_group g = (g.arn, (g.revision, g.requirements))

-- what the first of two kinds holds fits that one, and else the other
abbrev FitsEither : {A B : Type 0} → Bool → Codec A → A → Codec B → B → Type 0
FitsEither {A} b c x d y = let one : Option A = only_if b x in layout.choose (is_some one) (IsSomeAnd one c.Fits) (d.Fits y)

abbrev pub revised_plan : Plan → List ℕ × (List ℕ × (ℕ × Wanted))
revised_plan p = (p.id, (p.group, (p.revision, wanted_of p)))

pub accepted_plain : (p : Plan) (bytes : List ℕ) → (p.revision == 0) ≡ true → (label & label & wanted).Fits (plain_plan p) → bytes ≡ 18
    ∷ (label & label & wanted).spell (plain_plan p) → Spelled bytes (Accepted p)
accepted_plain p bytes is fits same = record { fits = rw is fits; same = rw is same }

pub accepted_revised : (p : Plan) (bytes : List ℕ) → (p.revision == 0) ≡ false → (label & label & revision & wanted).Fits (revised_plan p) → bytes ≡ 29
    ∷ (label & label & revision & wanted).spell (revised_plan p)
    → Spelled bytes (Accepted p)
accepted_revised p bytes is fits same = record { fits = rw is fits; same = rw is same }

pub grouped_plain : (g : Group) (bytes : List ℕ) → (g.revision == 0) ≡ true → (label & list_of requirement).Fits (plain_group g) → bytes ≡ 26
    ∷ (label & list_of requirement).spell (plain_group g)
    → Spelled bytes (Grouped g)
grouped_plain g bytes is fits same = record { fits = rw is fits; same = rw is same }

pub grouped_revised : (g : Group) (bytes : List ℕ) → (g.revision == 0) ≡ false → (label & revision & list_of requirement).Fits (revised_group g)
    → bytes ≡ 30 ∷ (label & revision & list_of requirement).spell (revised_group g) → Spelled bytes (Grouped g)
grouped_revised g bytes is fits same = record { fits = rw is fits; same = rw is same }

pub plain_plan_spelled : (p : Plan) → (p.revision == 0) ≡ true → record_spelled (Accepted p) ≡ 18 ∷ (label & label & wanted).spell (plain_plan p)
plain_plan_spelled p is = rw is refl

pub revised_plan_spelled : (p : Plan) → (p.revision == 0) ≡ false → record_spelled (Accepted p) ≡ 29
    ∷ (label & label & revision & wanted).spell (revised_plan p)
revised_plan_spelled p is = rw is refl

pub plain_group_spelled : (g : Group) → (g.revision == 0) ≡ true → record_spelled (Grouped g) ≡ 26 ∷ (label & list_of requirement).spell (plain_group g)
plain_group_spelled g is = rw is refl

pub revised_group_spelled : (g : Group) → (g.revision == 0) ≡ false → record_spelled (Grouped g) ≡ 30
    ∷ (label & revision & list_of requirement).spell (revised_group g)
revised_group_spelled g is = rw is refl

-- a line for each kind
kinds_are : AreKinds kinds
unfolding record_of
kinds_are =
    kind_is _ _ _ _ origin_is (λ x f. record { fits = f; same = refl }) (λ rest. refl) ⊕
    kind_is _ _ _ _ (both _ _ label_is (both _ _ label_is wanted_is)) (λ x f. record { fits = f; same = refl }) (λ rest. refl) ⊕
    kind_is _ _ _ _ name_is (λ x f. record { fits = f; same = refl }) (λ rest. refl) ⊕
    kind_is _ _ _ _ (both _ _ name_is exit_is) (λ x f. record { fits = f; same = refl }) (λ rest. refl) ⊕
    kind_is _ _ _ _ nothing_is (λ x f. record { fits = f; same = refl }) (λ rest. refl) ⊕
    kind_is _ _ _ _ (both _ _ name_is (both _ _ step_is exit_is)) (λ x f. record { fits = f; same = refl }) (λ rest. refl) ⊕
    kind_is _ _ _ _ name_is (λ x f. record { fits = f; same = refl }) (λ rest. refl) ⊕
    kind_is _ _ _ _ outcome_is (λ x f. record { fits = f; same = refl }) (λ rest. refl) ⊕
    kind_is _ _ _ _ (both _ _ long_is (both _ _ origin_is (both _ _ number_is (both _ _ number_is number_is)))) (λ x f. record {
      fits = f;
      same =
          refl;
    }) (λ rest. refl) ⊕
    kind_is _ _ _ _ (both _ _ label_is (list_is _ requirement_is)) (λ x f. record { fits = f; same = refl }) (λ rest. refl) ⊕
    kind_is _ _ _ _ item_is (λ x f. record { fits = f; same = refl }) (λ rest. refl) ⊕
    kind_is _ _ _ _ (both _ _ label_is outcome_is) (λ x f. record { fits = f; same = refl }) (λ rest. refl) ⊕
    kind_is _ _ _ _ (both _ _ label_is (both _ _ label_is (both _ _ revision_is wanted_is))) (λ x f. accepted_revised _ _ (not_zero _ f.1.1.0.0) f refl)
    (λ rest. refl) ⊕
    kind_is _ _ _ _ (both _ _ label_is (both _ _ revision_is (list_is _ requirement_is))) (λ x f. grouped_revised _ _ (not_zero _ f.1.0.0) f refl)
    (λ rest. refl) ⊕
    kind_is _ _ _ _ name_is (λ x f. record { fits = f; same = refl }) (λ rest. refl) ⊕
    no_more

takes_by : (ks : List Kind) → EachIsKind ks → (b : ℕ) (rest : List ℕ) (r : Record) → IsBytes rest → layout.read_by ks b rest ≡ Some r → Spelled (b ∷ rest) r
takes_by [] laws b rest r fits e = absurd cc
takes_by (k ∷ ks) laws b rest r fits e =
    elim (branch b k.first (k.of rest) (layout.read_by ks b rest) r e) [
      | inl h ↦ subst (λ (n : ℕ). Spelled (n ∷ rest) r) (sym h.0) (laws.0.takes rest r fits h.1)
      | inr e ↦ takes_by ks laws.1 b rest r fits e
    ]

abbrev made_by : List Kind → Record → Record
made_by [] r = r
made_by (k ∷ ks) r = if k.holds r then k.made r else made_by ks r

again_by : (ks : List Kind) → EachIsKind ks → (r : Record) → layout.FitsBy ks r → record_of (layout.spelled_by ks r) ≡ Some (made_by ks r)
again_by [] laws r fits = absurd fits
again_by (k ∷ ks) laws r fits = chosen (k.holds r) fits (again_by ks laws.1 r) where
  chosen : (b : Bool) → layout.choose b (k.Fits r) (layout.FitsBy ks r) → (layout.FitsBy ks r → record_of (layout.spelled_by ks r) ≡ Some (made_by ks r))
      → record_of (if b then k.spell r else layout.spelled_by ks r) ≡ Some (if b then k.made r else made_by ks r)
  chosen true fits others = laws.0.again r fits
  chosen false fits others = others fits

-- the kind that holds a record has its fields
made : (r : Record) → made_by kinds r ≡ r
made r = elim r as (λ r. made_by kinds r ≡ r) [ Accepted p ↦ plan_made p | Grouped g ↦ group_made g | _ ↦ refl ] where
  plan_made : (p : Plan) → made_by kinds (Accepted p) ≡ Accepted p
  plan_made p = by (p.revision == 0) refl where
    by : (b : Bool) → (p.revision == 0) ≡ b → made_by kinds (Accepted p) ≡ Accepted p
    by true is = rw is (ap (λ n. Accepted (plan_of p.id p.group n (wanted_of p))) (sym (eqb-true p.revision 0 is)))
    by false is = rw is refl

  group_made : (g : Group) → made_by kinds (Grouped g) ≡ Grouped g
  group_made g = by (g.revision == 0) refl where
    by : (b : Bool) → (g.revision == 0) ≡ b → made_by kinds (Grouped g) ≡ Grouped g
    by true is = rw is (ap (λ n. Grouped (record { arn = g.arn; revision = n; requirements = g.requirements })) (sym (eqb-true g.revision 0 is)))
    by false is = rw is refl

pub record_takes : (bytes : List ℕ) (r : Record) → IsBytes bytes → record_of bytes ≡ Some r → Spelled bytes r
unfolding record_of
record_takes [] r fits e = absurd cc
record_takes (b ∷ rest) r fits e = takes_by kinds kinds_are.each b rest r (IsBytes-rest b rest fits) e

pub record_again : (r : Record) → RecordFits r → record_of (record_spelled r) ≡ Some r
record_again r fits = again_by kinds kinds_are.each r fits ∙ ap (λ r. Some r) (made r)

pub record_asks : (r : Record) → RecordFits r → IsWritable r
record_asks r = elim r as (λ r. RecordFits r → IsWritable r) [
  | Genesis o ↦ origin_is.asks o
  | Accepted p ↦ plan_asks p (p.revision == 0)
  | Turned n o groups items closed ↦ λ fits. origin_is.asks o fits.1.0
  | Grouped g ↦ group_asks g (g.revision == 0)
  | Kept i ↦ item_is.asks i
  | _ ↦ λ fits. tt
] where
  plan_asks : (p : Plan) (b : Bool) → FitsEither b (label & label & wanted) (plain_plan p) (label & label & revision & wanted) (revised_plan p) →
      IsWritable (Accepted p)
  plan_asks p true fits = wanted_is.asks (wanted_of p) fits.1.1
  plan_asks p false fits = wanted_is.asks (wanted_of p) fits.1.1.1

  group_asks : (g : Group) (b : Bool) → FitsEither b (label & list_of requirement) (plain_group g) (label & revision & list_of requirement)
      (revised_group g) → IsWritable (Grouped g)
  group_asks g true fits = (list_is _ requirement_is).asks g.requirements fits.1
  group_asks g false fits = (list_is _ requirement_is).asks g.requirements fits.1.1

-- bytes are the spelling of one record at most
pub one_record : (bytes : List ℕ) (r s : Record) → Spelled bytes r → Spelled bytes s → r ≡ s
one_record bytes r s p q =
    let same : record_of bytes ≡ Some r = ap record_of p.same ∙ record_again r p.fits in
    some_is r s (sym same ∙ ap record_of q.same ∙ record_again s q.fits)
