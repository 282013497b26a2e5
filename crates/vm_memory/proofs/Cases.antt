-- The ways through the stores: what is left to write gives the whole.
-- Assumes nothing.
use mathlib.Core.Path.{◌≡◌, refl, sym, ◌∙◌, ap, subst}
use mathlib.Core.List.{List, [], ◌∷◌, ◌++◌}
use Prim.Native.Nat.{ℕ, suc, ◌+◌, ◌-◌, ◌/◌, ◌%◌, ◌<◌, ◌≤◌}
use native.Mathlib.Numerals.{add-one}
use native.Mathlib.Omega.{arith}
use lib.ListN.{length, get_or, take, drop, set, replicate, length-set, length-take, length-replicate, get_or-replicate, drop_of_length-le}
use lib.Seq.{drop-cons, set_out, get_or-take}
use Rattle.base_word.specs.Bytes.{word_bytes}
use Rattle.vm_definitions.specs.Access.{store_from}
use Rattle.vm_definitions.specs.Frames.{frame_words}
use Rattle.vm_definitions.proofs.Words.{word-32}
use Rattle.base_limits.specs.declared.Width.TheVariants.{Bits32}

pub put-past : (l : List ℕ) (i v : ℕ) → length l ≤ i → l ≡ set l i v
put-past l i v h = sym (set_out l i v h)

-- ---- words one after another

pub store-one : (l : List ℕ) (a x : ℕ) → set l a x ≡ store_from l a (x ∷ [])
unfolding store_from
store-one l a x = refl

pub store-next : (l : List ℕ) (a x : ℕ) (xs : List ℕ) → store_from l a (x ∷ xs) ≡ store_from (set l a x) (a + 1) xs
unfolding store_from
store-next l a x xs = ap (λ (n : ℕ). store_from (set l a x) n xs) (sym (add-one a))

pub store-append : (l : List ℕ) (a : ℕ) (xs ys : List ℕ) → store_from l a (xs ++ ys) ≡ store_from (store_from l a xs) (a + length xs) ys
unfolding store_from
store-append l a [] ys = let z : a ≡ a + 0 = omega arith in ap (λ (n : ℕ). store_from l n ys) z
store-append l a (x ∷ xs) ys =
    let z : suc a + length xs ≡ a + suc (length xs) = omega arith in
    store-append (set l a x) (suc a) xs ys ∙ ap (λ (n : ℕ). store_from (store_from (set l a x) (suc a) xs) n ys) z

-- ---- a loop: i of the words are written

pub record Putting (l₀ : List ℕ) (at : ℕ) (ws l : List ℕ) (i : ℕ) : Type 0 where
  pub within : i ≤ length ws
  pub long : length l ≡ length l₀
  pub rest : store_from l (at + i) (drop i ws) ≡ store_from l₀ at ws

putting-start : (l : List ℕ) (at : ℕ) (ws : List ℕ) → Putting l at ws l 0
putting-start l at ws =
    let z : at + 0 ≡ at = omega arith in record { within = omega arith; long = refl; rest = ap (λ (n : ℕ). store_from l n ws) z }

putting-more : (l₀ : List ℕ) (at : ℕ) (ws l : List ℕ) (i v : ℕ) → Putting l₀ at ws l i → i < length ws → v ≡ get_or ws i 0
    → Putting l₀ at ws (set l (at + i) v) (i + 1)
putting-more l₀ at ws l i v h g q =
    record {
      within = omega arith;
      long = length-set l (at + i) v ∙ h.long;
      rest =
          (let z : at + (i + 1) ≡ at + i + 1 = omega arith in
          ap (λ (n : ℕ). store_from (set l (at + i) v) n (drop (i + 1) ws)) z
          ∙ sym (store-next l (at + i) v (drop (i + 1) ws))
          ∙ ap (λ (x : ℕ). store_from l (at + i) (x ∷ drop (i + 1) ws)) q
          ∙ ap (λ (n : ℕ). store_from l (at + i) (get_or ws i 0 ∷ drop n ws)) (add-one i)
          ∙ ap (λ (xs : List ℕ). store_from l (at + i) xs) (sym (drop-cons ws i 0 g))
          ∙ h.rest);
    }

putting-done : (l₀ : List ℕ) (at : ℕ) (ws l : List ℕ) (i : ℕ) → Putting l₀ at ws l i → length ws ≤ i → l ≡ store_from l₀ at ws
unfolding store_from
putting-done l₀ at ws l i h g = sym (ap (λ (xs : List ℕ). store_from l (at + i) xs) (drop_of_length-le ws g)) ∙ h.rest

-- words
pub words-start : (l : List ℕ) (at : ℕ) (ws : List ℕ) → Putting l at ws l 0
words-start l at ws = putting-start l at ws

pub words_more : (l₀ : List ℕ) (at : ℕ) (ws l l' : List ℕ) (i : ℕ) → Putting l₀ at ws l i → i < length ws → l' ≡ set l (at + i) (get_or ws i 0)
    → Putting l₀ at ws l' (i + 1)
words_more l₀ at ws l l' i h g e = rw e (putting-more l₀ at ws l i (get_or ws i 0) h g refl)

pub words-done : (l₀ : List ℕ) (at : ℕ) (ws l : List ℕ) (i : ℕ) → Putting l₀ at ws l i → length ws ≤ i → l ≡ store_from l₀ at ws
words-done l₀ at ws l i h g = putting-done l₀ at ws l i h g

pub ruleset wording = (words-start, words_more, words-done)

-- zeros
pub zeros-more : (l₀ : List ℕ) (at n : ℕ) (l l' : List ℕ) (i : ℕ) → Putting l₀ at (replicate n 0) l i → i < n → l' ≡ set l (at + i) 0
    → Putting l₀ at (replicate n 0) l' (i + 1)
zeros-more l₀ at n l l' i h g e =
    rw e
    (putting-more l₀ at (replicate n 0) l i 0 h (omega (arith, length-replicate {A = ℕ} n 0)) (sym (get_or-replicate {A = ℕ} n i 0 0 g)))

pub zeros-done : (l₀ : List ℕ) (at n : ℕ) (l : List ℕ) (i : ℕ) → Putting l₀ at (replicate n 0) l i → n ≤ i → l ≡ store_from l₀ at (replicate n 0)
zeros-done l₀ at n l i h g = putting-done l₀ at (replicate n 0) l i h (omega (arith, length-replicate {A = ℕ} n 0))

pub ruleset zeroing = (words-start, zeros-more, zeros-done)

-- bytes
pub record Copying (m₀ : List ℕ) (bs : List ℕ) (n : ℕ) (m : List ℕ) (i : ℕ) : Type 0 where
  pub have : n ≤ length bs
  pub room : n ≤ length m
  pub put : Putting m₀ 0 (take n bs) m i

pub bytes-start : (m : List ℕ) (bs : List ℕ) (n : ℕ) → n ≤ length m → n ≤ length bs → Copying m bs n m 0
bytes-start m bs n h g = record { have = g; room = h; put = putting-start m 0 (take n bs) }

pub bytes-more : (m₀ : List ℕ) (bs : List ℕ) (n : ℕ) (m : List ℕ) (i : ℕ) → Copying m₀ bs n m i → i < n → Copying m₀ bs n (set m i (get_or bs i 0)) (i + 1)
bytes-more m₀ bs n m i h g =
    record {
      have = h.have;
      room = omega (arith, h.room, length-set m i (get_or bs i 0));
      put =
          (let z : 0 + i ≡ i = omega arith in
          subst (λ (j : ℕ). Putting m₀ 0 (take n bs) (set m j (get_or bs i 0)) (i + 1)) z
          (putting-more m₀ 0 (take n bs) m i (get_or bs i 0) h.put (omega (arith, length-take n bs, h.have)) (sym (get_or-take n bs i 0 g))));
    }

pub bytes-done : (m₀ : List ℕ) (bs : List ℕ) (n : ℕ) (m : List ℕ) (i : ℕ) → Copying m₀ bs n m i → n ≤ i → m ≡ store_from m₀ 0 (take n bs)
bytes-done m₀ bs n m i h g = putting-done m₀ 0 (take n bs) m i h.put (omega (arith, length-take n bs, h.have))

pub ruleset copying = (bytes-start, bytes-more, bytes-done)

-- stores from the first place on stand in front
front-cons : (x : ℕ) (m : List ℕ) (a : ℕ) (ys : List ℕ) → store_from (x ∷ m) (suc a) ys ≡ x ∷ store_from m a ys
unfolding store_from
front-cons x m a [] = refl
front-cons x m a (y ∷ ys) = front-cons x (set m a y) (suc a) ys

pub front-stored : (m ys : List ℕ) → length ys ≤ length m → store_from m 0 ys ≡ ys ++ drop (length ys) m
unfolding store_from
front-stored m [] h = refl
front-stored [] (y ∷ ys) h = absurd (omega arith)
front-stored (x ∷ m) (y ∷ ys) h = front-cons y m 0 ys ∙ ap (λ (l : List ℕ). y ∷ l) (front-stored m ys (omega arith))

-- ---- a frame

pub head-put : (l l1 l2 l3 : List ℕ) (a x y z : ℕ) → l1 ≡ set l a x → l2 ≡ set l1 (a + 1) y → l3 ≡ set l2 (a + 2) z → l3 ≡ store_from l a (x ∷ y ∷ z ∷ [])
unfolding store_from
head-put l l1 l2 l3 a x y z e1 e2 e3 =
    let z1 : a + 1 ≡ suc a = omega arith in
    let z2 : a + 2 ≡ suc (suc a) = omega arith in
    rw (e3, e2, e1, z1, z2)

pub frame-built : (l l1 l2 l3 : List ℕ) (a call frame top size k : ℕ) (xs : List ℕ) → call < 4294967296 → frame < 4294967296 → top < 4294967296
    → l1 ≡ store_from l a (call ∷ frame ∷ top ∷ []) → l2 ≡ store_from l1 (a + 3) xs → k ≡ size - (3 + length xs)
    → l3 ≡ store_from l2 (a + 3 + length xs) (replicate k 0) → l3 ≡ store_from l a (frame_words Bits32 call frame top xs size)
unfolding frame_words
frame-built l l1 l2 l3 a call frame top size k xs h1 h2 h3 e1 e2 d e3 =
    rw (word-32 call h1, word-32 frame h2, word-32 top h3)
    (e3 ∙ ap (λ (j : ℕ). store_from l2 (a + 3 + length xs) (replicate j 0)) d
    ∙ ap (λ (q : List ℕ). store_from q (a + 3 + length xs) (replicate (size - (3 + length xs)) 0)) e2
    ∙ sym (store-append l1 (a + 3) xs (replicate (size - (3 + length xs)) 0))
    ∙ ap (λ (q : List ℕ). store_from q (a + 3) (xs ++ replicate (size - (3 + length xs)) 0)) e1
    ∙ sym (store-append l a (call ∷ frame ∷ top ∷ []) (xs ++ replicate (size - (3 + length xs)) 0)))

-- ---- a word of memory

pub word-put : (m : List ℕ) (a v : ℕ)
    → set (set (set (set m a (v % 256)) (a + 1) (v / 256 % 256)) (a + 2) (v / 256 / 256 % 256)) (a + 3) (v / 256 / 256 / 256 % 256)
    ≡ store_from m a (word_bytes 4 v)
unfolding store_from word_bytes
word-put m a v =
    let z1 : a + 1 ≡ suc a = omega arith in
    let z2 : a + 2 ≡ suc (suc a) = omega arith in
    let z3 : a + 3 ≡ suc (suc (suc a)) = omega arith in
    rw (z1, z2, z3)
