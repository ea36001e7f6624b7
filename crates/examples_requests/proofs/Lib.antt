pub mod KeptTogether
