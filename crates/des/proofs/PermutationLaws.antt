-- The laws of the permutations' tables: computed, but for IP and its inverse, which go through one table after the other.
use Rattle.std.proofs.Common.{◌-◌, ◌%◌, cond, eqb, take, refl, ◌∙◌, arith}
use Rattle.std.proofs.lemmas.Bool.{eqb-true}
use Rattle.des.specs.Permutations.{ip_table, ip_inverse_table, p_table, pc_1_table, pc_2_table}
use Rattle.des.specs.PermutationLaws.{occurrences, pc_2_omits, IpByRule, IpUndone, IpInverseUndone, EByRule, PNamesEachOnce, Pc1ByRule, Pc1NamesNoParityBit, Pc2NamesEachOnce, Pc2KeepsHalves, PermutationLaws}
use Rattle.des.proofs.Tests.{every_at}
use Rattle.des.proofs.Composed.{twice, straight}

pub ip_by_rule : IpByRule
ip_by_rule = refl

pub ip_undone : IpUndone
ip_undone x h = twice 64 x ip_table ip_inverse_table tt ∙ straight 64 x h

pub ip_inverse_undone : IpInverseUndone
ip_inverse_undone x h = twice 64 x ip_inverse_table ip_table tt ∙ straight 64 x h

pub e_by_rule : EByRule
e_by_rule = refl

pub p_names_each_once : PNamesEachOnce
p_names_each_once = (refl, λ v h k. eqb-true (occurrences v p_table) 1 (every_at 1 32 (λ v. eqb (occurrences v p_table) 1) refl v h (omega arith)))

pub pc_1_by_rule : Pc1ByRule
pc_1_by_rule = refl

pub pc_1_names_no_parity_bit : Pc1NamesNoParityBit
pc_1_names_no_parity_bit = (
  refl,
  λ v h k. eqb-true (occurrences v pc_1_table) (cond (eqb (v % 8) 0) 0 1) (every_at 1 64 (λ v. eqb (occurrences v pc_1_table) (cond (eqb (v % 8) 0) 0 1)) refl v h (omega arith)),
)

pub pc_2_names_each_once : Pc2NamesEachOnce
pc_2_names_each_once = (
  refl,
  λ v h k. eqb-true (occurrences v pc_2_table) (1 - occurrences v pc_2_omits) (every_at 1 56 (λ v. eqb (occurrences v pc_2_table) (1 - occurrences v pc_2_omits)) refl v h (omega arith)),
)

pub pc_2_keeps_halves : Pc2KeepsHalves
pc_2_keeps_halves v h k =
    eqb-true (occurrences v (take 24 pc_2_table)) (occurrences v pc_2_table) (every_at 1 28 (λ v. eqb (occurrences v (take 24 pc_2_table)) (occurrences v pc_2_table)) refl v h (omega arith))

pub permutation_laws : PermutationLaws
permutation_laws = record {
  rule_of_ip = ip_by_rule;
  inverse_undoes = ip_undone;
  undoes_inverse = ip_inverse_undone;
  rule_of_e = e_by_rule;
  bits_of_p = p_names_each_once;
  rule_of_pc_1 = pc_1_by_rule;
  bits_of_pc_1 = pc_1_names_no_parity_bit;
  bits_of_pc_2 = pc_2_names_each_once;
  halves_of_pc_2 = pc_2_keeps_halves;
}
