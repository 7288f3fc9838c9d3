pub mod AnswerLemmas
pub mod DeliveryLaws
pub mod SeenTexts
pub mod SignalLaws
