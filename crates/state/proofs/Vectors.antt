-- Four words in a vector: turned, and their bytes.
use mathlib.Core.Path.{◌≡◌, refl, ap, ◌∙◌}
use mathlib.Core.List.{List, [], ◌∷◌, ◌++◌}
use Prim.Native.Nat.{ℕ, ◌+◌, ◌-◌, ◌*◌, ◌/◌, ◌%◌, ◌^◌, ◌<◌}
use native.Mathlib.Omega.{arith}
use lib.ListN.{length, get_or}
use lib.Lanes.{zip2, Each1, chunk, number_l, digits_l}
use lib.Bits.{bit_or}
use mir.Syntax.{w8, w64}
use mir.Val.{Fits}
use Rattle.std.proofs.lemmas.Simd.{get_or_narrower, get_or_wider, get_or-chunk, length-chunk, below_from_Fits}
use Rattle.buffers.specs.Bytes.{bytes_of, word_at}
use Rattle.buffers.proofs.Words.{eight}
use Rattle.state.specs.Lane.{turn, lane_by}
use Rattle.state.proofs.Turn.{turn_or}

-- what holds of each list of four
pub four_words : (P : List ℕ → Type 0) → ((a b c d : ℕ) → P (a ∷ b ∷ c ∷ d ∷ [])) → (x : List ℕ) → length x ≡ 4 → P x
four_words P p (a ∷ b ∷ c ∷ d ∷ []) h = p a b c d
four_words P p [] h = absurd (omega arith)
four_words P p (a ∷ []) h = absurd (omega arith)
four_words P p (a ∷ b ∷ []) h = absurd (omega arith)
four_words P p (a ∷ b ∷ c ∷ []) h = absurd (omega arith)
four_words P p (a ∷ b ∷ c ∷ d ∷ e ∷ x) h = absurd (omega arith)

same_four : {a b c d a' b' c' d' : ℕ} → a ≡ a' → b ≡ b' → c ≡ c' → d ≡ d' → a ∷ b ∷ c ∷ d ∷ [] ≡ a' ∷ b' ∷ c' ∷ d' ∷ []
same_four p q r s = cc

-- two shifts of each word and an or are a turn
pub shifts_turn : (k : ℕ) → k < 64 → (x : List ℕ) → length x ≡ 4 → Each1 (Fits w64) x
    → zip2 bit_or (zip2 (λ (a n : ℕ). a * 2 ^ n % 2 ^ 64) x (k ∷ k ∷ k ∷ k ∷ []))
    (zip2 (λ (a n : ℕ). a / 2 ^ n) x ((64 - k) ∷ (64 - k) ∷ (64 - k) ∷ (64 - k) ∷ []))
    ≡ (lane_by (λ i. turn k (get_or x i 0))).l
shifts_turn k hk =
    four_words _
    (λ a b c d h. same_four (turn_or a k hk h.0.fits) (turn_or b k hk h.1.0.fits) (turn_or c k hk h.1.1.0.fits) (turn_or d k hk h.1.1.1.0.fits))

-- the bytes of four words
pub joined : {a b c d a' b' c' d' : List ℕ} → a ≡ a' → b ≡ b' → c ≡ c' → d ≡ d' → a ++ b ++ c ++ d ≡ a' ++ b' ++ c' ++ d'
joined p q r s = cc

-- the eight bytes of number j in d
abbrev eight_of : List ℕ → ℕ → List ℕ
eight_of d j =
    get_or d (8 * j + 0) 0 ∷ get_or d (8 * j + 1) 0 ∷ get_or d (8 * j + 2) 0 ∷ get_or d (8 * j + 3) 0
    ∷ get_or d (8 * j + 4) 0 ∷ get_or d (8 * j + 5) 0 ∷ get_or d (8 * j + 6) 0 ∷ get_or d (8 * j + 7) 0 ∷ []

module _ (x : List ℕ) (h : Each1 (Fits w64) x) where
  abbrev digits : List ℕ
  digits = digits_l 256 32 (number_l (2 ^ 64) x)

  word_bytes : (j : ℕ) → j < 4 → eight_of digits j ≡ bytes_of (get_or x j 0)
  word_bytes j hj =
      let n : (i : ℕ) → i < 8 → get_or digits (8 * j + i) 0 ≡ get_or x j 0 / 256 ^ i % 256 =
      λ i hi. get_or_narrower (2 ^ 64) 8 256 32 x j i refl (below_from_Fits w64 x h) hi (omega arith) in
      let one : get_or x j 0 / 1 % 256 ≡ get_or x j 0 % 256 = omega arith in
      eight (n 0 (omega arith) ∙ one) (n 1 (omega arith)) (n 2 (omega arith)) (n 3 (omega arith))
      (n 4 (omega arith)) (n 5 (omega arith)) (n 6 (omega arith)) (n 7 (omega arith))

  pub four_bytes : digits_l 256 32 (number_l (2 ^ 64) x)
      ≡ bytes_of (get_or x 0 0) ++ bytes_of (get_or x 1 0) ++ bytes_of (get_or x 2 0) ++ bytes_of (get_or x 3 0)
  four_bytes =
      joined (word_bytes 0 (omega arith)) (word_bytes 1 (omega arith)) (word_bytes 2 (omega arith)) (word_bytes 3 (omega arith))

-- the number of eight bytes is their word
eight_list : (x : List ℕ) → length x ≡ 8 → number_l 256 x ≡ word_at x 0
eight_list (a ∷ b ∷ c ∷ d ∷ e ∷ f ∷ g ∷ k ∷ []) h = omega arith
eight_list ([]) h = absurd (omega arith)
eight_list (a ∷ []) h = absurd (omega arith)
eight_list (a ∷ b ∷ []) h = absurd (omega arith)
eight_list (a ∷ b ∷ c ∷ []) h = absurd (omega arith)
eight_list (a ∷ b ∷ c ∷ d ∷ []) h = absurd (omega arith)
eight_list (a ∷ b ∷ c ∷ d ∷ e ∷ []) h = absurd (omega arith)
eight_list (a ∷ b ∷ c ∷ d ∷ e ∷ f ∷ []) h = absurd (omega arith)
eight_list (a ∷ b ∷ c ∷ d ∷ e ∷ f ∷ g ∷ []) h = absurd (omega arith)
eight_list (a ∷ b ∷ c ∷ d ∷ e ∷ f ∷ g ∷ k ∷ l ∷ x) h = absurd (omega arith)

same_word : {a b c d e f g h a' b' c' d' e' f' g' h' : ℕ}
    → a ≡ a' → b ≡ b' → c ≡ c' → d ≡ d' → e ≡ e' → f ≡ f' → g ≡ g' → h ≡ h'
    → a + 256 * (b + 256 * (c + 256 * (d + 256 * (e + 256 * (f + 256 * (g + 256 * h))))))
    ≡ a' + 256 * (b' + 256 * (c' + 256 * (d' + 256 * (e' + 256 * (f' + 256 * (g' + 256 * h'))))))
same_word p q r s t u v w = cc

-- the words of 32 bytes
module _ (x : List ℕ) (h : length x ≡ 32) where
  byte_is : (j i k : ℕ) → j < 4 → i < 8 → 8 * j + i ≡ k → get_or (chunk (8 * j) 8 (chunk 0 32 x)) i 0 ≡ get_or x k 0
  byte_is j i k hj hi e =
      let e' : 0 + (8 * j + i) ≡ k = omega (arith, e) in
      get_or-chunk (8 * j) 8 (chunk 0 32 x) i 0 hi ∙ get_or-chunk 0 32 x (8 * j + i) 0 (omega arith) ∙ ap (λ (n : ℕ). get_or x n 0) e'

  word_is : (j : ℕ) → j < 4 → number_l 256 (chunk (8 * j) 8 (chunk 0 32 x)) ≡ word_at x (8 * j)
  word_is j hj =
      let l : length (chunk 0 32 x) ≡ 32 = length-chunk 0 32 x (omega arith) in
      eight_list (chunk (8 * j) 8 (chunk 0 32 x)) (length-chunk (8 * j) 8 (chunk 0 32 x) (omega arith))
      ∙ same_word (byte_is j 0 _ hj (omega arith) (omega arith)) (byte_is j 1 _ hj (omega arith) (omega arith))
      (byte_is j 2 _ hj (omega arith) (omega arith)) (byte_is j 3 _ hj (omega arith) (omega arith))
      (byte_is j 4 _ hj (omega arith) (omega arith)) (byte_is j 5 _ hj (omega arith) (omega arith))
      (byte_is j 6 _ hj (omega arith) (omega arith)) (byte_is j 7 _ hj (omega arith) (omega arith))

  pub words_of : Each1 (Fits w8) (chunk 0 32 x) → digits_l (2 ^ 64) 4 (number_l 256 (chunk 0 32 x)) ≡ (lane_by (λ i. word_at x (8 * i))).l
  words_of each =
      let n : (j : ℕ) → j < 4 → get_or (digits_l (2 ^ 64) 4 (number_l 256 (chunk 0 32 x))) j 0 ≡ word_at x (8 * j) =
      λ j hj. get_or_wider 256 8 (2 ^ 64) 4 (chunk 0 32 x) j refl (below_from_Fits w8 (chunk 0 32 x) each) hj ∙ word_is j hj in
      same_four (n 0 (omega arith)) (n 1 (omega arith)) (n 2 (omega arith)) (n 3 (omega arith))
