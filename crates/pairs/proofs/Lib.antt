pub mod FieldsBack
pub mod ReadBack
