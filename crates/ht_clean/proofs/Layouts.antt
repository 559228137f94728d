-- The layouts of the four patterns take each coded bit from its place: a test of all steps of a word.
use Rattle.std.proofs.Common.{◌≡◌, true, refl}
use mathlib.Core.Bool.{xor}
use Rattle.ht_rate.specs.declared.kinds.Pattern.TheVariants.{Half, TwoThirds, ThreeQuarters, FiveSixths}
use Rattle.ht_clean.specs.Planes.{is_layout, takes_step, traced}

pub half : is_layout Half (record {
  a = record { keep = 384307168202282325; draw = 0 };
  b = record { keep = 0; draw = 384307168202282325 };
  by_one = record { keep = 76861433640456465; draw = 153722867280912930 };
  by_two = record { keep = 217020518514230019; draw = 3390945601784844 };
  by_four = record { keep = 4222189076152335; draw = 13511829689991408 };
  by_eight = record { keep = 1095216660735; draw = 69269232615168 };
  by_sixteen = record { keep = 65535; draw = 1073676288 };
  kept = record { a = 1073741823; b = 1073741823 };
}) ≡ true
unfolding is_layout takes_step traced xor
half = refl

pub two-thirds : is_layout TwoThirds (record {
  a = record { keep = 164703072086692425; draw = 329406144173384850 };
  b = record { keep = 0; draw = 164703072086692425 };
  by_one = record { keep = 54901024028897475; draw = 219604096115589900 };
  by_two = record { keep = 4223155694530575; draw = 67570491112489200 };
  by_four = record { keep = 71776123339407615; draw = 1095216725760 };
  by_eight = record { keep = 71776119061282815; draw = 4294901760 };
  by_sixteen = record { keep = 4294967295; draw = 1095216660480 };
  kept = record { a = 1099511627775; b = 366503875925 };
}) ≡ true
unfolding is_layout takes_step traced xor
two-thirds = refl

pub three-quarters : is_layout ThreeQuarters (record {
  a = record { keep = 76861433640456465; draw = 153722867280912930 };
  b = record { keep = 0; draw = 384307168202282325 };
  by_one = record { keep = 506381209866536711; draw = 15824412808329272 };
  by_two = record { keep = 17733194119839807; draw = 126118107138756544 };
  by_four = record { keep = 17587891081215; draw = 8989607085469696 };
  by_eight = record { keep = 16777215; draw = 35184355311616 };
  by_sixteen = record { keep = 35184372088831; draw = 0 };
  kept = record { a = 15079016609499; b = 25131694349165 };
}) ≡ true
unfolding is_layout takes_step traced xor
three-quarters = refl

pub five-sixths : is_layout FiveSixths (record {
  a = record { keep = 18300341342965825; draw = 183003413429658250 };
  b = record { keep = 0; draw = 384307168202282325 };
  by_one = record { keep = 8727855102029855; draw = 279291363264955360 };
  by_two = record { keep = 287948918338094079; draw = 17575007222784 };
  by_four = record { keep = 287948901176049663; draw = 1099510579200 };
  by_eight = record { keep = 1099511627775; draw = 1124800395214848 };
  by_sixteen = record { keep = 1125899906842623; draw = 0 };
  kept = record { a = 399512870169963; b = 762706388506293 };
}) ≡ true
unfolding is_layout takes_step traced xor
five-sixths = refl
