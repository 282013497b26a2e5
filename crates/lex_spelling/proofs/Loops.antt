-- The loops of `spell`, `same_name` and `copy_text`: what is left gives the whole answer.
-- Assumes nothing.
use mathlib.Core.Path.{◌≡◌, refl, sym, ◌∙◌, ap, subst}
use mathlib.Core.Bool.{Bool, true, false}
use mathlib.Core.List.{List, [], ◌∷◌, ◌++◌, append-nil}
use Prim.Native.Nat.{ℕ, zero, suc, ◌+◌, ◌-◌, ◌≤◌, ◌<◌}
use native.Mathlib.Numerals.{add-one}
use native.Mathlib.Omega.{arith}
use lib.Dec.{eqb}
use lib.ListN.{length, get_or, take, drop, set, length-set, drop_of_length-le, take-append-drop}
use lib.Seq.{take-length, take_all, take-suc-set, drop-set-lt, append_snoc, drop-cons, take-take, take-append_seam}
use Rattle.base_prelude.specs.Choice.{pick, if_eq}
use Rattle.base_prelude.specs.Lists.{same_list, overlay}
use Rattle.lex_spelling.specs.Text.{Character, character_at, Text, spell_more, spelled_within, spelled_at, name_at, mix, hash_from, measured_from, measured}
use Rattle.lex_spelling.specs.Pair.{Paired, pair_one, pair_end, pair_of, pair_at}
use Rattle.std.proofs.Common.{Ok, Err, Continue, Break}
use Rattle.lex_spelling.specs.declared.Decoded.{Decoded}
use Rattle.lex_spelling.specs.declared.Ending.{Ending}
use Rattle.lex_spelling.proofs.Ahead.{OneIn, one_in, PairIn, paired-in}

-- the text from a place on, by the character there
text-by : (k : ℕ) (q : Bool) (s : List ℕ) (at : ℕ) (x : Character) → x ≡ character_at q s at
    → spelled_within (suc k) q s at ≡ spell_more x (λ next. spelled_within k q s next)
unfolding spelled_within
text-by k q s at x e = ap (λ (y : Character). spell_more y (λ next. spelled_within k q s next)) (sym e)

text-one : (k : ℕ) (q : Bool) (s : List ℕ) (at : ℕ) (y : Decoded) (x : Character) → x ≡ character_at q s at → x ≡ Ok y
    → spelled_within (suc k) q s at ≡ record { bytes = y.value ∷ (spelled_within k q s y.next).bytes; ending = (spelled_within k q s y.next).ending }
unfolding spell_more
text-one k q s at y x e f = text-by k q s at x e ∙ ap (λ (z : Character). spell_more z (λ next. spelled_within k q s next)) f

text-end : (k : ℕ) (q : Bool) (s : List ℕ) (at : ℕ) (b : Ending) (x : Character) → x ≡ character_at q s at → x ≡ Err b
    → spelled_within (suc k) q s at ≡ record { bytes = []; ending = b }
unfolding spell_more
text-end k q s at b x e f = text-by k q s at x e ∙ ap (λ (z : Character). spell_more z (λ next. spelled_within k q s next)) f

-- one byte more, counted and mixed
measure-more : (size hash v : ℕ) (t : Text) → measured_from size hash (record { bytes = v ∷ t.bytes; ending = t.ending }) ≡ measured_from (size + 1) (mix hash v) t
unfolding measured_from hash_from
measure-more size hash v t =
    let e : size + suc (length t.bytes) ≡ size + 1 + length t.bytes = omega arith in
    ap (λ (n : ℕ). record { size = n; hash = hash_from (mix hash v) t.bytes; ending = t.ending }) e

measure-end : (size hash : ℕ) (e : Ending) → measured_from size hash (record { bytes = []; ending = e }) ≡ record { size = size; hash = hash; ending = e }
unfolding measured_from hash_from
measure-end size hash e =
    let p : size + 0 ≡ size = omega arith in ap (λ (n : ℕ). record { size = n; hash = hash; ending = e }) p

measure-start : (t : Text) → measured_from 0 0 t ≡ measured t
unfolding measured_from measured
measure-start t =
    let p : 0 + length t.bytes ≡ length t.bytes = omega arith in
    ap (λ (n : ℕ). record { size = n; hash = hash_from 0 t.bytes; ending = t.ending }) p

pub record Spelling (q : Bool) (s : List ℕ) (at i size hash : ℕ) : Type 0 where
  pub few : size ≤ i
  pub fits : size ≤ length s
  pub count : ℕ
  pub enough : length s - i ≤ count
  pub rest : measured_from size hash (spelled_within (suc count) q s i) ≡ measured (spelled_at q s at)

pub spelling-start : (q : Bool) (s : List ℕ) (at : ℕ) → Spelling q s at at 0 0
unfolding spelled_at
spelling-start q s at =
    record { few = omega arith; fits = omega arith; count = length s; enough = omega arith; rest = measure-start (spelled_within (suc (length s)) q s at) }

more-spelt : (q : Bool) (s : List ℕ) (at i size hash : ℕ) (y : Decoded) (h' : ℕ) (x : Character) (c : ℕ) → length s - i ≤ c
    → measured_from size hash (spelled_within (suc c) q s i) ≡ measured (spelled_at q s at) → size ≤ i → OneIn s i (Ok y)
    → x ≡ character_at q s i → x ≡ Ok y → h' ≡ mix hash y.value → Spelling q s at y.next (size + 1) h'
more-spelt q s at i size hash y h' x zero g r f a p e m = let z : ⊥ = omega (arith, a.0, a.1) in absurd z
more-spelt q s at i size hash y h' x (suc c) g r f a p e m =
    record {
      few = omega (arith, a.0);
      fits = omega (arith, a.0, a.1);
      count = c;
      enough = omega (arith, a.0);
      rest = ap (λ (n : ℕ). measured_from (size + 1) n (spelled_within (suc c) q s y.next)) m ∙ sym (measure-more size hash y.value (spelled_within (suc c) q s y.next)) ∙ ap (measured_from size hash) (sym (text-one (suc c) q s i y x p e)) ∙ r;
    }

module _ (q : Bool) (s : List ℕ) (at i size hash : ℕ) (x : Character) where
  one-here : (y : Decoded) → Spelling q s at i size hash → x ≡ character_at q s i → x ≡ Ok y → OneIn s i (Ok y)
  one-here y h p e = subst (OneIn s i) e (one_in q s i x p)

  pub spelling-more : (y : Decoded) (h' : ℕ) → Spelling q s at i size hash → x ≡ character_at q s i → x ≡ Ok y → h' ≡ mix hash y.value → Spelling q s at y.next (size + 1) h'
  spelling-more y h' h p e m =
      more-spelt q s at i size hash y h' x h.count h.enough h.rest h.few (one-here y h p e) p e m

  pub spelling-less : (y : Decoded) → Spelling q s at i size hash → x ≡ character_at q s i → x ≡ Ok y → length s - y.next < length s - i
  spelling-less y h p e = let a : OneIn s i (Ok y) = one-here y h p e in omega (arith, a.0, a.1)

  pub spelling-end : (b : Ending) → Spelling q s at i size hash → x ≡ character_at q s i → x ≡ Err b
      → record { size = size; hash = hash; ending = b } ≡ measured (spelled_at q s at)
  spelling-end b h p e =
      sym (measure-end size hash b) ∙ ap (measured_from size hash) (sym (text-end h.count q s i b x p e)) ∙ h.rest

pub ruleset spelling = (spelling-start, spelling-more, spelling-end)

-- what is left to compare, by the two characters
abbrev pair_rest : Paired → (ℕ → Text) → (ℕ → Text) → Bool
pair_rest (Continue p) f g = same_list (f p.0).bytes (g p.1).bytes
pair_rest (Break b) f g = b

alike : (t : Bool) (a b : ℕ) (f g : ℕ → Text) → pick t (same_list (f a).bytes (g b).bytes) false ≡ pair_rest (pick t (Continue (a, b)) (Break false)) f g
alike true a b f g = refl
alike false a b f g = refl

pair-rest : (x y : Character) (f g : ℕ → Text) → same_list (spell_more x f).bytes (spell_more y g).bytes ≡ pair_rest (pair_of x y) f g
unfolding same_list spell_more pair_of pair_one pair_end if_eq
pair-rest (Ok x) (Ok y) f g = alike (eqb x.value y.value) x.next y.next f g
pair-rest (Ok x) (Err e) f g = refl
pair-rest (Err e) (Ok y) f g = refl
pair-rest (Err e) (Err d) f g = refl

pub record Comparing (s : List ℕ) (p q i j : ℕ) : Type 0 where
  pub one : ℕ
  pub two : ℕ
  pub enough : length s - i ≤ one
  pub room : length s - j ≤ two
  pub rest : same_list (spelled_within (suc one) false s i).bytes (spelled_within (suc two) false s j).bytes ≡ same_list (name_at s p) (name_at s q)

pub comparing-start : (s : List ℕ) (p q : ℕ) → Comparing s p q p q
unfolding name_at spelled_at
comparing-start s p q =
    record { one = length s; two = length s; enough = omega arith; room = omega arith; rest = refl }

-- both texts one character on
rest-is : (s : List ℕ) (i j : ℕ) (z : Paired) (c d : ℕ) → z ≡ pair_at s i j
    → same_list (spelled_within (suc c) false s i).bytes (spelled_within (suc d) false s j).bytes
    ≡ pair_rest z (λ n. spelled_within c false s n) (λ n. spelled_within d false s n)
unfolding spelled_within pair_at
rest-is s i j z c d e =
    pair-rest (character_at false s i) (character_at false s j) (λ n. spelled_within c false s n) (λ n. spelled_within d false s n)
    ∙ ap (λ (y : Paired). pair_rest y (λ n. spelled_within c false s n) (λ n. spelled_within d false s n)) (sym e)

module _ (s : List ℕ) (p q i j : ℕ) (z : Paired) where
  pub comparing-end : (b : Bool) → Comparing s p q i j → z ≡ pair_at s i j → z ≡ Break b → b ≡ same_list (name_at s p) (name_at s q)
  comparing-end b h e f =
      ap (λ (y : Paired). pair_rest y (λ n. spelled_within h.one false s n) (λ n. spelled_within h.two false s n)) (sym f)
      ∙ sym (rest-is s i j z h.one h.two e) ∙ h.rest

  on_in : (a b : ℕ) → Comparing s p q i j → z ≡ pair_at s i j → z ≡ Continue (a, b) → PairIn s i j (Continue (a, b))
  on_in a b h e f = subst (PairIn s i j) f (paired-in s i j z e)

  pub comparing-less : (a b : ℕ) → Comparing s p q i j → z ≡ pair_at s i j → z ≡ Continue (a, b) → length s - a < length s - i
  comparing-less a b h e f = let w : PairIn s i j (Continue (a, b)) = on_in a b h e f in omega (arith, w.0.0, w.0.1)

  on-more : (a b c d : ℕ) → length s - i ≤ c → length s - j ≤ d → PairIn s i j (Continue (a, b))
      → same_list (spelled_within (suc c) false s i).bytes (spelled_within (suc d) false s j).bytes ≡ same_list (name_at s p) (name_at s q)
      → z ≡ pair_at s i j → z ≡ Continue (a, b) → Comparing s p q a b
  on-more a b zero d g k w r e f = let x : ⊥ = omega (arith, w.0.0, w.0.1) in absurd x
  on-more a b (suc c) zero g k w r e f = let x : ⊥ = omega (arith, w.1.0, w.1.1) in absurd x
  on-more a b (suc c) (suc d) g k w r e f =
      record {
        one = c;
        two = d;
        enough = omega (arith, w.0.0);
        room = omega (arith, w.1.0);
        rest = ap (λ (y : Paired). pair_rest y (λ n. spelled_within (suc c) false s n) (λ n. spelled_within (suc d) false s n)) (sym f) ∙ sym (rest-is s i j z (suc c) (suc d) e) ∙ r;
      }

  pub comparing-more : (a b : ℕ) → Comparing s p q i j → z ≡ pair_at s i j → z ≡ Continue (a, b) → Comparing s p q a b
  comparing-more a b h e f = on-more a b h.one h.two h.enough h.room (on_in a b h e f) h.rest e f

pub ruleset comparing = (comparing-start, comparing-more, comparing-end)

-- the rest of a text written behind what is in the buffer already
abbrev pub overlay_from : ℕ → List ℕ → List ℕ → List ℕ
overlay_from k xs out = take k out ++ overlay xs (drop k out)

pub overlay-none : (out : List ℕ) → overlay [] out ≡ out
unfolding overlay
overlay-none out = take-length out

overlay-full : (xs : List ℕ) → overlay xs [] ≡ []
unfolding overlay
overlay-full xs = refl

overlay-one : (x : ℕ) (xs : List ℕ) (y : ℕ) (out : List ℕ) → overlay (x ∷ xs) (y ∷ out) ≡ x ∷ overlay xs out
unfolding overlay
overlay-one x xs y out = refl

pub overlay-start : (xs out : List ℕ) → overlay_from 0 xs out ≡ overlay xs out
overlay-start xs out = refl

pub overlay-end : (k : ℕ) (out : List ℕ) → overlay_from k [] out ≡ out
overlay-end k out = ap (λ (l : List ℕ). take k out ++ l) (overlay-none (drop k out)) ∙ take-append-drop k out

pub overlay-past : (k : ℕ) (xs out : List ℕ) → length out ≤ k → overlay_from k xs out ≡ out
overlay-past k xs out h =
    ap (λ (l : List ℕ). take k out ++ overlay xs l) (drop_of_length-le out h) ∙ ap (λ (l : List ℕ). take k out ++ l) (overlay-full xs) ∙ append-nil (take k out) ∙ take_all k out h

pub overlay-more : (k v : ℕ) (xs out : List ℕ) → k < length out → overlay_from (k + 1) xs (set out k v) ≡ overlay_from k (v ∷ xs) out
overlay-more k v xs out h =
    rw (add-one, take-suc-set, drop-set-lt (suc k) out k v (omega arith))
    (append_snoc (take k out) v (overlay xs (drop (suc k) out)) ∙ ap (λ (l : List ℕ). take k out ++ l) (sym (overlay-one v xs (get_or out k 0) (drop (suc k) out))) ∙ ap (λ (l : List ℕ). take k out ++ overlay (v ∷ xs) l) (sym (drop-cons out k 0 h)))

pub record Copying (q : Bool) (s : List ℕ) (at : ℕ) (out₀ out : List ℕ) (i k : ℕ) : Type 0 where
  pub long : length out ≡ length out₀
  pub count : ℕ
  pub enough : length s - i ≤ count
  pub rest : overlay_from k (spelled_within (suc count) q s i).bytes out ≡ overlay (spelled_at q s at).bytes out₀

pub copying-start : (q : Bool) (s : List ℕ) (at : ℕ) (out : List ℕ) → Copying q s at out out at 0
unfolding spelled_at
copying-start q s at out =
    record { long = refl; count = length s; enough = omega arith; rest = overlay-start (spelled_within (suc (length s)) q s at).bytes out }

copied : (q : Bool) (s : List ℕ) (at : ℕ) (out₀ out : List ℕ) (i k : ℕ) (y : Decoded) (x : Character) (c : ℕ) → length s - i ≤ c
    → overlay_from k (spelled_within (suc c) q s i).bytes out ≡ overlay (spelled_at q s at).bytes out₀ → length out ≡ length out₀ → OneIn s i (Ok y)
    → k < length out → x ≡ character_at q s i → x ≡ Ok y → Copying q s at out₀ (set out k y.value) y.next (k + 1)
copied q s at out₀ out i k y x zero g r l a w p e = let z : ⊥ = omega (arith, a.0, a.1) in absurd z
copied q s at out₀ out i k y x (suc c) g r l a w p e =
    record {
      long = length-set out k y.value ∙ l;
      count = c;
      enough = omega (arith, a.0);
      rest = overlay-more k y.value (spelled_within (suc c) q s y.next).bytes out w ∙ ap (λ (t : Text). overlay_from k t.bytes out) (sym (text-one (suc c) q s i y x p e)) ∙ r;
    }

module _ (q : Bool) (s : List ℕ) (at : ℕ) (out₀ out : List ℕ) (i k : ℕ) (x : Character) where
  pub copying-in : (y : Decoded) → Copying q s at out₀ out i k → x ≡ character_at q s i → x ≡ Ok y → OneIn s i (Ok y)
  copying-in y h p e = subst (OneIn s i) e (one_in q s i x p)

  pub copying-byte : (y : Decoded) → Copying q s at out₀ out i k → x ≡ character_at q s i → x ≡ Ok y → y.value < 256
  copying-byte y h p e = (copying-in y h p e).2

  pub copying-more : (y : Decoded) (b : ℕ) → Copying q s at out₀ out i k → k < length out₀ → x ≡ character_at q s i → x ≡ Ok y → b ≡ y.value
      → Copying q s at out₀ (set out k b) y.next (k + 1)
  copying-more y b h w p e f =
      subst (λ (v : ℕ). Copying q s at out₀ (set out k v) y.next (k + 1)) (sym f)
      (copied q s at out₀ out i k y x h.count h.enough h.rest h.long (copying-in y h p e) (omega (arith, h.long)) p e)

  pub copying-end : (b : Ending) → Copying q s at out₀ out i k → x ≡ character_at q s i → x ≡ Err b → out ≡ overlay (spelled_at q s at).bytes out₀
  copying-end b h p e =
      sym (overlay-end k out) ∙ ap (λ (t : Text). overlay_from k t.bytes out) (sym (text-end h.count q s i b x p e)) ∙ h.rest

pub copying-full : (q : Bool) (s : List ℕ) (at : ℕ) (out₀ out : List ℕ) (i k : ℕ) → Copying q s at out₀ out i k → length out₀ ≤ k → out ≡ overlay (spelled_at q s at).bytes out₀
copying-full q s at out₀ out i k h l =
    sym (overlay-past k (spelled_within (suc h.count) q s i).bytes out (omega (arith, h.long))) ∙ h.rest

pub ruleset copying = (copying-start, copying-more, copying-end, copying-full)

-- a text that fits stands at the front of the buffer
pub overlay-front : (xs out : List ℕ) → length xs ≤ length out → take (length xs) (overlay xs out) ≡ xs
unfolding overlay
overlay-front xs out h = take-take (length xs) (length out) (xs ++ drop (length xs) out) h ∙ take-append_seam xs (drop (length xs) out)
