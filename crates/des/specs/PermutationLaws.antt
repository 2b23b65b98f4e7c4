-- What the tables of the permutations and selections have to meet, each said without the table.
use Rattle.std.specs.Prelude.{◌≡◌, ℕ, ◌+◌, ◌-◌, ◌*◌, ◌/◌, ◌%◌, ◌^◌, ◌<◌, ◌≤◌, cond, List, [], ◌∷◌, ◌++◌, map, length, take, ◌==◌}
use Rattle.std.specs.List.{range_with_len}
use Rattle.des.specs.Permutations.{ip_table, e_table, p_table, pc_1_table, pc_2_table, ip, ip_inverse}

-- how often v stands in a table
abbrev pub occurrences : ℕ → List ℕ → ℕ
occurrences v [] = 0
occurrences v (x ∷ t) = cond (x == v) 1 0 + occurrences v t

-- entry k of IP, counted from 0: its rows go down by 8. The first four begin with 58, 60, 62, 64, the others with 57, 59, 61, 63.
abbrev pub ip_entry : ℕ → ℕ
ip_entry k = 58 + 2 * (k / 8 % 4) - k / 32 - 8 * (k % 8)

-- IP has these 64 entries
abbrev pub IpByRule : Type 0
IpByRule = ip_table ≡ map ip_entry (range_with_len 0 64)

-- the inverse initial permutation undoes the initial permutation
abbrev pub IpUndone : Type 0
IpUndone = (x : ℕ) → x < 2 ^ 64 → ip_inverse (ip x) ≡ x

-- and the other way round
abbrev pub IpInverseUndone : Type 0
IpInverseUndone = (x : ℕ) → x < 2 ^ 64 → ip (ip_inverse x) ≡ x

-- entry k of E, counted from 0: six bits for each four, with the bit before and the bit after them, counted round 32
abbrev pub e_entry : ℕ → ℕ
e_entry k = (4 * (k / 6) + k % 6 + 31) % 32 + 1

-- E has these 48 entries
abbrev pub EByRule : Type 0
EByRule = e_table ≡ map e_entry (range_with_len 0 48)

-- P has 32 entries, and names each of the 32 bits once
abbrev pub PNamesEachOnce : Type 0
PNamesEachOnce = (length p_table ≡ 32) × ((v : ℕ) → 1 ≤ v → v ≤ 32 → occurrences v p_table ≡ 1)

-- entry k of the half C of PC-1, counted from 0: with the key as eight rows of eight bits, the columns 1, 2, 3 and the lower half of 4, from below
abbrev pub pc_1_c_entry : ℕ → ℕ
pc_1_c_entry k = 57 + k / 8 - 8 * (k % 8)

-- entry k of the half D: the columns 7, 6, 5 and the upper half of 4, from below
abbrev pub pc_1_d_entry : ℕ → ℕ
pc_1_d_entry k = 63 - k / 8 - 8 * (k % 8 + 4 * (k / 24))

-- PC-1 has these 28 and 28 entries
abbrev pub Pc1ByRule : Type 0
Pc1ByRule = pc_1_table ≡ map pc_1_c_entry (range_with_len 0 28) ++ map pc_1_d_entry (range_with_len 0 28)

-- PC-1 has 56 entries, and names each bit of the key once, but no parity bit, that is none of 8, 16, .. 64
abbrev pub Pc1NamesNoParityBit : Type 0
Pc1NamesNoParityBit = (length pc_1_table ≡ 56) × ((v : ℕ) → 1 ≤ v → v ≤ 64 → occurrences v pc_1_table ≡ cond (v % 8 == 0) 0 1)

-- the bits of C and D that PC-2 leaves out
abbrev pub pc_2_omits : List ℕ
pc_2_omits = 9 ∷ 18 ∷ 22 ∷ 25 ∷ 35 ∷ 38 ∷ 43 ∷ 54 ∷ []

-- PC-2 has 48 entries, and names each other bit once
abbrev pub Pc2NamesEachOnce : Type 0
Pc2NamesEachOnce = (length pc_2_table ≡ 48) × ((v : ℕ) → 1 ≤ v → v ≤ 56 → occurrences v pc_2_table ≡ 1 - occurrences v pc_2_omits)

-- the bits of C, which are 1 to 28, stand in the first 24 entries of PC-2
abbrev pub Pc2KeepsHalves : Type 0
Pc2KeepsHalves = (v : ℕ) → 1 ≤ v → v ≤ 28 → occurrences v (take 24 pc_2_table) ≡ occurrences v pc_2_table

-- all of these
pub record PermutationLaws : Type 0 where
  pub rule_of_ip : IpByRule
  pub inverse_undoes : IpUndone
  pub undoes_inverse : IpInverseUndone
  pub rule_of_e : EByRule
  pub bits_of_p : PNamesEachOnce
  pub rule_of_pc_1 : Pc1ByRule
  pub bits_of_pc_1 : Pc1NamesNoParityBit
  pub bits_of_pc_2 : Pc2NamesEachOnce
  pub halves_of_pc_2 : Pc2KeepsHalves
