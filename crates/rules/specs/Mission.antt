-- What is proved of the user's three demands and of document 02's requests, in one place, sentence by sentence. Each field of a demand is a
-- statement of `Demands`, and each field of a request one of its sentences (`ChainSentences`, `StepSentences`, `StepFromSentences`,
-- `SpotSentences`, `ResizeSentences`, `FormSentences`, `ConversionSentences`, `OverlaySentences`), which say it in full. One law proves them all:
-- `mission`, in proofs/Mission.
-- That the code does what the rules say is promised call by call, in the `ensures` of each.
-- Assumes nothing.
use Rattle.rules.specs.Demands.{ChangeAnswers, CreateAnswers, MakeAnswers, RefusalsInOrder, StepIsACall, QueryIsACall, StoresInside}
use Rattle.rules.specs.Demands.{TokenStoresLow, SoundnessIsTested, MapExists, CreatedIsEmpty, QueryAnswers, InsertAnswers, UpdateAnswers}
use Rattle.rules.specs.Demands.{DeleteAnswers, BeginAnswers, ShrinkAnswers, BackAnswers, StepAnswers, EndAnswers, RecoverAnswers, StoresAsWritten}
use Rattle.rules.specs.Demands.{StoreNumbers, MakeTakesTheList, CutsAreSafe, RecoveryMayBeCut, RecoveryAccepts, GrowthBound, ShrinkBound}
use Rattle.rules.specs.Demands.{QueryCounts, ProbesAreFew, ProbesAreDistinct}
use Rattle.rules.specs.ChainSentences.{ChainRefusals, ChainWrites, ChainCounts, ChainLooksAtFew, ChainAnswers, ChainsAfterCuts}
use Rattle.rules.specs.StepFromSentences.{StepFromIsACall, ZeroIsTheStep, TakesTheFirstFrom, ElevenFromExactly, SixFromExactly}
use Rattle.rules.specs.StepFromSentences.{RefusedTellsZero, PastTheLevel, AsTheStep, StuckStaysStuck, InsertsGiveNoPlace}
use Rattle.rules.specs.StepFromSentences.{PassEnds, PassPlacesAll, LooksUntilFound, PassLooksAtFew}
use Rattle.rules.specs.SpotSentences.{FoundStood, RefusedStoodNowhere, LookupStood, TheOneStood, ChangesGoThere, ChainStood}
use Rattle.rules.specs.ResizeSentences.{ShrinkStores, LevelsAreThree, LevelsShrink, SevenExactly, SeventeenExactly, BackStores, LevelsTurn}
use Rattle.rules.specs.ResizeSentences.{TurnedTwice, EightExactly, OwnStoresCount, TwentyTooFew}
use Rattle.rules.specs.FormSentences.{MixedBits, PlacesByHash, TagBelowHash, WordsExactly, WrongWordsAreTwelve, StoresChangeOneSlot}
use Rattle.rules.specs.FormSentences.{TokenStoresKeep, HoldsByTag, WrongTagHides, TagsMissNothing, NoTagsInForm1}
use Rattle.rules.specs.ConversionSentences.{ConvertRefusals, ConvertLeaves, FlagIsTwelve, ConvertKeepsTheMap, ThereAndBack, OldWordsPlayNoPart}
use Rattle.rules.specs.OverlaySentences.{AskedRefusals, AskedAnswers, AskedLooksAtFew, PartsAgree, OverlayAnswers, HiddenChangesNothing}
use Rattle.rules.specs.StepSentences.{StepTakesTheFirst, NoItemBlocks, SixExactly, ElevenExactly, SixIsNotEleven}

pub record Demand1 : Type 0 where
  -- "Any words, keys and lengths may be handed in. Every call ends, stays within its buffers and checks its own input."
  pub refusals_in_order : RefusalsInOrder
  pub stores_inside : StoresInside
  pub token_stores_low : TokenStoresLow
  -- "A refusal carries its number, reports zero stores and changes neither table nor list."
  pub change_answers : ChangeAnswers
  pub create_answers : CreateAnswers
  pub make_answers : MakeAnswers
  pub step_is_a_call : StepIsACall
  pub query_is_a_call : QueryIsACall

pub record Demand2 : Type 0 where
  -- "On a sound table": what that is, and its map, of which there is one
  pub soundness_is_tested : SoundnessIsTested
  pub map_exists : MapExists
  pub created_is_empty : CreatedIsEmpty
  -- "with a list of 20 words or more, query, insert, update and delete answer as a plain map does". "For an absent key, insert
  -- says "no place" exactly when every candidate slot is taken and no single permitted move frees one."
  pub query_answers : QueryAnswers
  pub insert_answers : InsertAnswers
  pub update_answers : UpdateAnswers
  pub delete_answers : DeleteAnswers
  -- "and growing keeps the map"; request f): so do shrinking and turning back
  pub begin_answers : BeginAnswers
  pub shrink_answers : ShrinkAnswers
  pub back_answers : BackAnswers
  pub step_answers : StepAnswers
  pub end_answers : EndAnswers
  pub recover_answers : RecoverAnswers

pub record Demand3 : Type 0 where
  -- "From a sound table an accepted change lists at most ten stores; made in order they give the sound table that document
  -- 01 fixes, with demand 2's map."
  pub store_numbers : StoreNumbers
  pub stores_as_written : StoresAsWritten
  pub make_takes_the_list : MakeTakesTheList
  -- "A cut after any number of them is accepted by recovery (list of 20 words or more), which lists at most three stores and brings
  -- back exactly the map before or the map after"
  pub cuts_are_safe : CutsAreSafe
  pub recovery_accepts : RecoveryAccepts
  -- "also when recovery is cut, however often"
  pub recovery_may_be_cut : RecoveryMayBeCut
  -- "One whole growth from N top buckets .. spends at most 20N + 2 stores in its own calls, whatever but creation is called between."
  -- Request f): "40N + 2 for one whole shrink from N top buckets .. with no cut, creation or turning back; the 20N + 2 bound gains that last premise
  -- too"
  pub growth_bound : GrowthBound
  pub shrink_bound : ShrinkBound
  -- "A query looks at no more than four buckets, six while growing, and reports the number truly looked at." Request f): "six buckets in either
  -- phase"
  pub probes_are_few : ProbesAreFew
  pub probes_are_distinct : ProbesAreDistinct
  pub query_counts : QueryCounts

-- request a), "Show the inlined callers."
pub record InlinedCallers : Type 0 where
  -- "fewer than 2(d + 1) words give a new refusal 15, and an address of 2^56 or more, or a depth above 255, gives 16. These are checked
  -- after 1 and 3, 16 before 15. The first missing depth gives 5"
  pub chain_refusals : ChainRefusals
  -- "Given an address and a depth d from 0 to 255, return the records of depth d, then each smaller depth down to 0. .. The records go to
  -- lent words, two each"; "nothing is written; success writes just those words"
  pub chain_writes : ChainWrites
  -- "The count is the sum of the queries' probe counts down to the last depth asked, the missing one included, and 0 with other refusals"
  pub chain_counts : ChainCounts
  -- "never more than 4(d + 1) at rest or 6(d + 1) otherwise"
  pub chain_looks_at_few : ChainLooksAtFew
  -- on a sound table it answers as the map does; so also after every cut, once recovered
  pub chain_answers : ChainAnswers
  pub chains_after_cuts : ChainsAfterCuts

-- request b), "One stubborn item blocks a whole growth." "The ten-store and 20N + 2 bounds stay": `store_numbers` and `growth_bound` of demand 3
pub record StubbornItems : Type 0 where
  -- "The step must take the first interim item, in the same order, that has a place."
  pub step_takes_the_first : StepTakesTheFirst
  pub no_item_blocks : NoItemBlocks
  -- "Refusal 6 is then given exactly when interim items remain and none has one; 11 keeps its meaning."
  pub six_exactly : SixExactly
  pub eleven_exactly : ElevenExactly
  pub six_is_not_eleven : SixIsNotEleven

-- the step that goes on, `step_from`. "It counts among growth's own calls in the 20N + 2 statement, and in every statement about cuts and maps
-- that the step has": the demands speak of it where they speak of every call, and `step_answers` of every start
pub record GoesOn : Type 0 where
  pub step_from_is_a_call : StepFromIsACall
  -- "over the interim buckets from a given one on, counted from 0 in the level; with 0 it IS the step"
  pub zero_is_the_step : ZeroIsTheStep
  -- "It takes the first item from there on that has a place, answers its stores, its placing and the bucket .. in which the item stood"
  pub takes_the_first_from : TakesTheFirstFrom
  -- "11 when no item stands from there on; 6 when some do and none has a place; the bucket told with a refusal is 0. A start past the level
  -- is 11."
  pub eleven_from_exactly : ElevenFromExactly
  pub six_from_exactly : SixFromExactly
  pub refused_tells_zero : RefusedTellsZero
  pub past_the_level : PastTheLevel
  -- "where no interim item stands before the start, it answers as the step does; a step gives no place to an item that had none"
  pub as_the_step : AsTheStep
  pub stuck_stays_stuck : StuckStaysStuck
  -- "Inserts never go to the interim level, so what was passed once stays passed."
  pub inserts_give_no_place : InsertsGiveNoPlace
  -- "with no other call between, one pass that goes on from the bucket told ends with an empty interim level or with items left of which none
  -- has a place"
  pub pass_ends : PassEnds
  pub pass_places_all : PassPlacesAll
  -- "a pass of s steps over a level of M buckets looks at no more than M + s interim buckets (.. as a theorem over the definition of what is
  -- looked at)"
  pub looks_until_found : LooksUntilFound
  pub pass_looks_at_few : PassLooksAtFew

-- request e), "Say where the answer stood."
pub record WhereItStood : Type 0 where
  -- "The inner lookup, and query with it, must also return the word index of the key found and whether it was top, bottom or interim"
  pub found_stood : FoundStood
  pub lookup_stood : LookupStood
  -- "with any refusal, index 0 and top"
  pub refused_stood_nowhere : RefusedStoodNowhere
  -- on a sound table there is one slot to tell
  pub the_one_stood : TheOneStood
  -- "Delete, update, the chain of a) and the ledger of d) rest on that lookup": of the ledger it is `CreditsStood` of the crate `crediting`
  pub changes_go_there : ChangesGoThere
  pub chain_stood : ChainStood

-- request f), "Shrink when a level is unloaded.": with `shrink_answers`, `back_answers` and `shrink_bound` of the demands, all of which speak of either
-- phase
pub record UnloadedLevel : Type 0 where
  -- "the state goes from rest with k to phase 2 with k − 1, in one store"
  pub shrink_stores : ShrinkStores
  -- "The old top becomes the interim level, the old bottom the top, and a level of a quarter of the old top the new bottom."
  pub levels_shrink : LevelsShrink
  -- "It needs k at least 2, else new refusal 17; a table in phase 1 or 2 refuses both begins with 7, tested first."
  pub seventeen_exactly : SeventeenExactly
  pub seven_exactly : SevenExactly
  -- "levels in use are now three in either phase"
  pub levels_are_three : LevelsAreThree
  -- "A shrinking table becomes a growing one with k + 1, and a growing one a shrinking one with k − 1, by one state store."
  pub back_stores : BackStores
  pub levels_turn : LevelsTurn
  pub turned_twice : TurnedTwice
  -- "At rest it, step and end give 8."
  pub eight_exactly : EightExactly
  -- "40N + 2 for one whole shrink": whose stores are counted, and that 20N + 2 would be too few
  pub own_stores_count : OwnStoresCount
  pub twenty_too_few : TwentyTooFew

-- request g), "Form 2: better spread, and a tag for each slot.": with `create_answers`, `created_is_empty` and `refusals_in_order` of the demands, all of which
-- speak of either form
pub record TwoForms : Type 0 where
  -- "In form 2, before hashing, a key is combined by exclusive or with itself divided by 2^32. Form 1 keeps the old rule"
  pub mixed_bits : MixedBits
  pub places_by_hash : PlacesByHash
  -- "the hash 1 product modulo 2^64, divided by 2^24, modulo 256"
  pub tag_below_hash : TagBelowHash
  -- "an eight-bit tag for each taken slot in the token word, slot s at bits 8 + 8s to 15 + 8s"; "Free slots have tag 0; all other upper bits are 0;
  -- soundness and recovery test this"
  pub words_exactly : WordsExactly
  pub wrong_words_are_twelve : WrongWordsAreTwelve
  -- "calls read and write the whole word where 01 said modulo 16, keeping bits they do not change"; "Token and tag change in one store"
  pub stores_change_one_slot : StoresChangeOneSlot
  pub token_stores_keep : TokenStoresKeep
  -- "A form 2 query reads only the slots whose tag fits."
  pub holds_by_tag : HoldsByTag
  pub wrong_tag_hides : WrongTagHides
  -- "On a sound table its answer equals that of reading every slot, buckets looked at included."
  pub tags_miss_nothing : TagsMissNothing
  pub no_tags_in_form1 : NoTagsInForm1

-- request h), "Move customers to form 2, and back."
pub record MovedForms : Type 0 where
  -- "A source that is not sound gives 12, one in phase 1 or 2 gives 7, a second table of another length 13; these change nothing, in that order after 1
  -- of the source."
  pub convert_refusals : ConvertRefusals
  -- "A set flag is 12 here, not 3."
  pub flag_is_twelve : FlagIsTwelve
  -- "create the other form there with the same c, k and multipliers, and insert every item in probe-level order, bucket and slot ascending"; "If an item
  -- finds no place, answer 6 with its key and leave the second table freshly created, the one refusal that changes a buffer."
  pub convert_leaves : ConvertLeaves
  pub old_words_play_no_part : OldWordsPlayNoPart
  -- "Otherwise the two maps are equal."
  pub convert_keeps_the_map : ConvertKeepsTheMap
  -- "Where going and returning both succeed, the map is the original one."
  pub there_and_back : ThereAndBack

-- request i), "Reloaded code over a shipped build."
pub record ReloadedCode : Type 0 where
  -- "Ask both: a key in the newer table hides the same key in the older."; over two sound tables, by their maps
  pub asked_answers : AskedAnswers
  pub overlay_answers : OverlayAnswers
  -- "The answer is the part of whichever table holds the key, three words of that table and no copy; an empty part with a refusal." That it is no
  -- copy is promised by the call, of memory
  pub parts_agree : PartsAgree
  -- "A second call gives the refusal number, the table's name and the buckets looked at, at most the sum of both bounds."
  pub asked_looks_at_few : AskedLooksAtFew
  -- "Refusals 1 and 3 are tested on both tables before any lookup, both of the newer first; 5 when neither has the key. With 1 or 3 name that table,
  -- count 0; with 5 the older."
  pub asked_refusals : AskedRefusals
  -- "With both tables sound, an insert, update or delete of a hidden key in the older table, made whole, changes no record answered for any key"
  pub hidden_changes_nothing : HiddenChangesNothing

-- the user's three demands, document 02's requests, and the step that goes on
pub record Mission : Type 0 where
  pub any_input : Demand1
  pub plain_map : Demand2
  pub safe_cuts : Demand3
  pub inlined_callers : InlinedCallers
  pub stubborn_items : StubbornItems
  pub goes_on : GoesOn
  pub where_it_stood : WhereItStood
  pub unloaded_level : UnloadedLevel
  pub two_forms : TwoForms
  pub moved_forms : MovedForms
  pub reloaded_code : ReloadedCode
