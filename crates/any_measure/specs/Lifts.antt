-- A lifted measure keeps the six properties if the measure does. Assumes nothing.
use Rattle.std.specs.Prelude.{◌≡◌, ℕ, ◌+◌, true, Some, None, Option, refl}
use Rattle.std.proofs.Common.{sym, ap, ◌∙◌, arith}
use Rattle.std.proofs.lemmas.Bool.{false≢true}
use Rattle.std.specs.Option.{option_map}
use Rattle.measures.specs.Meaning.{Meaning, Possible, Properties, Formed}
use Rattle.measures.specs.Bytes.{EightBytes}
use Rattle.any_measure.specs.Lifted.{lifted, possible_within, written_within, joined_within}
use Rattle.measures.specs.Words.{bytes_of_eight}

module _ {V W A : Type 0} (wrap : V → W) (own : W → Option V) (blank : A) (owns : (x : V) → own (wrap x) ≡ Some x) (wraps : (w : W) (x : V) → own w ≡ Some x → w ≡ wrap x) (m : Meaning V A) (laws : Properties m) where
  -- a possible value is a wrapped one
  unwrapped : (a : W) (n : ℕ) → Possible (lifted wrap own blank m) a n → (x : V) × (a ≡ wrap x) × Possible m x n
  unwrapped a n p = at (own a) refl p where
    at : (o : Option V) → own a ≡ o → possible_within m.possible o n ≡ true → (x : V) × (a ≡ wrap x) × Possible m x n
    at None e q = absurd (false≢true q)
    at (Some x) e q = (x, wraps a x e, q)

  possible_wrap : (x : V) (n : ℕ) → (lifted wrap own blank m).possible (wrap x) n ≡ m.possible x n
  possible_wrap x n = rw (owns x)

  written_wrap : (x : V) → (lifted wrap own blank m).written (wrap x) ≡ m.written x
  written_wrap x = rw (owns x)

  associates_wrap : (x y z : V) → m.join (m.join x y) z ≡ m.join x (m.join y z) →
      (lifted wrap own blank m).join ((lifted wrap own blank m).join (wrap x) (wrap y)) (wrap z) ≡ (lifted wrap own blank m).join (wrap x) ((lifted wrap own blank m).join (wrap y) (wrap z))
  associates_wrap x y z e = simp owns (ap wrap e)

  commutes_wrap : (x y : V) → m.join x y ≡ m.join y x → (lifted wrap own blank m).join (wrap x) (wrap y) ≡ (lifted wrap own blank m).join (wrap y) (wrap x)
  commutes_wrap x y e = simp owns (ap wrap e)

  possible_join_wrap : (x y : V) (n : ℕ) → Possible m (m.join x y) n → Possible (lifted wrap own blank m) ((lifted wrap own blank m).join (wrap x) (wrap y)) n
  possible_join_wrap x y n e = simp owns e

  -- none leaves a value of its own measure, and any other, as it is
  none_joins : (a : W) → (lifted wrap own blank m).join (wrap m.none) a ≡ a
  none_joins a = rw (owns m.none) (at (own a) refl) where
    at : (o : Option V) → own a ≡ o → joined_within m.join wrap a (Some m.none) o ≡ a
    at None e = refl
    at (Some x) e = ap wrap (laws.none_joins_to_the_same x) ∙ sym (wraps a x e)

  read_was : (o : Option V) (x : V) → option_map wrap o ≡ Some (wrap x) → o ≡ Some x
  read_was None x p = let z : ◌≡◌ {A = ℕ} 0 1 = cc in absurd (omega arith)
  read_was (Some y) x p =
      let e : wrap y ≡ wrap x = cc in
      sym (owns y) ∙ ap own e ∙ owns x

  pub lifted_keeps : Properties (lifted wrap own blank m)
  lifted_keeps = record {
    join_associates = λ a b c i j k p q r s. let (x, ex, px) = unwrapped a i p in let (y, ey, py) = unwrapped b j q in let (z, ez, pz) = unwrapped c k r in
        rw (ex, ey, ez) (associates_wrap x y z (laws.join_associates x y z i j k px py pz s));
    join_commutes = λ a b i j p q r. let (x, ex, px) = unwrapped a i p in let (y, ey, py) = unwrapped b j q in
        rw (ex, ey) (commutes_wrap x y (laws.join_commutes x y i j px py r));
    none_joins_to_the_same = none_joins;
    none_for_no_rows = possible_wrap m.none 0 ∙ laws.none_for_no_rows;
    only_none_for_no_rows = λ a p. let (x, ex, px) = unwrapped a 0 p in ex ∙ ap wrap (laws.only_none_for_no_rows x px);
    one_row_is_possible = λ vs e p. possible_wrap (m.one vs) 1 ∙ laws.one_row_is_possible vs e p;
    join_is_possible = λ a b i j p q r. let (x, ex, px) = unwrapped a i p in let (y, ey, py) = unwrapped b j q in
        rw (ex, ey) (possible_join_wrap x y (i + j) (laws.join_is_possible x y i j px py r));
    written_reads_back = λ a w. let (x, ex, px) = unwrapped a w.0 w.3 in
        rw ex (ap (λ bs. option_map wrap (m.reads bs)) (written_wrap x) ∙ ap (option_map wrap) (laws.written_reads_back x (w.0, w.1, w.2, px)));
    nothing_else_reads_so = λ a bs w e p. let (x, ex, px) = unwrapped a w.0 w.3 in
        rw ex (laws.nothing_else_reads_so x bs (w.0, w.1, w.2, px) e (read_was (m.reads bs) x (p ∙ ap Some ex)) ∙ sym (written_wrap x));
  }

-- what a lifted measure writes is eight bytes too
pub lifted_formed : {V W A : Type 0} (wrap : V → W) (own : W → Option V) (blank : A) (m : Meaning V A) → Formed m → Formed (lifted wrap own blank m)
lifted_formed {V} wrap own blank m f = record { kind_is_a_byte = f.kind_is_a_byte; written_in_eight_bytes = λ a. eight (own a) } where
  eight : (o : Option V) → EightBytes (written_within m.written o)
  eight None = bytes_of_eight 0
  eight (Some x) = f.written_in_eight_bytes x
