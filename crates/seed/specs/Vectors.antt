-- The test vectors of RFC 4269, appendix B.
use Rattle.std.specs.Prelude.{◌≡◌, ℕ, List, [], ◌∷◌, ◌++◌, map}
use Rattle.cipher.specs.Words.{bytes_of}
use Rattle.seed.specs.Seed.{seed_enciphered}

-- what a plaintext becomes under a key
pub record Vector : Type 0 where
  pub key : List ℕ
  pub plaintext : List ℕ
  pub ciphertext : List ℕ

-- 16 bytes as two words
abbrev pub words : ℕ → ℕ → List ℕ
words a b = bytes_of a ++ bytes_of b

-- the four vectors, in the order of the appendix
abbrev pub vectors : List Vector
vectors =
    record {
      key = words 0x0000000000000000 0x0000000000000000;
      plaintext = words 0x0001020304050607 0x08090A0B0C0D0E0F;
      ciphertext = words 0x5EBAC6E0054E1668 0x19AFF1CC6D346CDB;
    } ∷
    record {
      key = words 0x0001020304050607 0x08090A0B0C0D0E0F;
      plaintext = words 0x0000000000000000 0x0000000000000000;
      ciphertext = words 0xC11F22F201405050 0x84483597E4370F43;
    } ∷
    record {
      key = words 0x4706480851E61BE8 0x5D74BFB3FD956185;
      plaintext = words 0x83A2F8A288641FB9 0xA4E9A5CC2F131C7D;
      ciphertext = words 0xEE54D13EBCAE706D 0x226BC3142CD40D4A;
    } ∷
    record {
      key = words 0x28DBC3BC49FFD87D 0xCFA509B11D422BE7;
      plaintext = words 0xB41E6BE2EBA84A14 0x8E2EED84593C5EC7;
      ciphertext = words 0x9B9B7BFCD1813CB9 0x5D0B3618F40F5122;
    } ∷ []

-- under each key, the plaintext becomes the ciphertext
abbrev pub VectorsAsPublished : Type 0
VectorsAsPublished = map (λ v. seed_enciphered v.key v.plaintext) vectors ≡ map (λ v. v.ciphertext) vectors
