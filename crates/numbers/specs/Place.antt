-- What the place of a refusal means, said without a word on how a number is read.
-- It is the length of the longest front of the word that some number's word begins with.
use Rattle.std.specs.Prelude.{List, ◌++◌, ℕ, ◌≤◌, ℤ, length, take}
use Rattle.numbers.specs.Spelling.{NumberWord, AddressWord}

-- a number's word, and an address word
abbrev pub ANumber : List ℕ → Type 0
ANumber w = (v : ℤ) × NumberWord w v

abbrev pub AnAddress : List ℕ → Type 0
AnAddress w = (n : ℕ) × AddressWord w n

-- some word of the kind W begins with s
pub record Begins (W : List ℕ → Type 0) (s : List ℕ) : Type 0 where
  pub rest : List ℕ
  pub word : W (s ++ rest)

-- the front of w up to place p begins such a word, and no longer front of w does
pub record LongestFront (W : List ℕ → Type 0) (w : List ℕ) (p : ℕ) : Type 0 where
  pub inside : p ≤ length w
  pub begins : Begins W (take p w)
  pub longest : (q : ℕ) → q ≤ length w → Begins W (take q w) → q ≤ p
